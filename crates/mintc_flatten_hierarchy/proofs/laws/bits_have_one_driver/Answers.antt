use Rattle.mintc_flatten_hierarchy.proofs.DrivenLaws.{one_driver}
use Rattle.mintc_flatten_hierarchy.proofs.laws.bits_have_one_driver.Goals as goal

pub returns : goal.returns
returns c = λ cells h given. one_driver given.0 cells given.1 given.2 h given.5
