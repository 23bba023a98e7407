use Rattle.std.proofs.Common.{ap, ◌∙◌, position, bytes_eq}
use Rattle.mintc_text_names.proofs.SharedNamesLaws.{position-seen}
use Rattle.mintc_text_names.proofs.names.NameSet.find.Goals as goal

pub returns-clause-place : goal.returns-clause-place
returns-clause-place c = c.get_index_of.ensures.index ∙ position-seen c.args.name.now c.self.inside.set.keys ∙ ap (position (bytes_eq c.args.name.now)) c.self.view_is
