use Rattle.std.proofs.Common.{refl}
use Rattle.mintcx_words.specs.CommandLine.{program_of}
use Rattle.mintcx_words.proofs.words.read_words.Goals as goal

pub returns : goal.returns
returns c = (program_of c.make_choices.result, (c.make_choices.result, c.make_choices.ensures, refl), c.read_by.ensures)
