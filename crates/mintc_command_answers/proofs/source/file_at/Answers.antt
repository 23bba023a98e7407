use Rattle.std.proofs.Common.{[], ◌∙◌}
use Rattle.std.proofs.lemmas.List.{get_or_read}
use Rattle.mintc_command_answers.proofs.source.file_at.Goals as goal

pub returns-clause-value : goal.returns-clause-value
returns-clause-value c = c.items.ensures ∙ get_or_read c.args.files.now c.args.place c.index-files-place.result c.requires.place c.index-files-place.is []
