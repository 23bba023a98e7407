use Rattle.mintc_senses.proofs.SenseLaws.{of_library}
use Rattle.mintc_senses.proofs.laws.libraries_are_read.Goals as goal

pub returns : goal.returns
returns c = of_library
