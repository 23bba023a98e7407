use Rattle.mintc_flatten_hierarchy.proofs.DrivenLaws.{no_driver}
use Rattle.mintc_flatten_hierarchy.proofs.laws.outputs_have_no_driver.Goals as goal

pub returns : goal.returns
returns c = λ cells h given. no_driver given.0 cells given.1 given.2 h given.5
