use Rattle.mintc_flatten_hierarchy.proofs.SharedShapeLaws.{in_shape}
use Rattle.mintc_flatten_hierarchy.proofs.laws.hierarchies_are_in_shape.Goals as goal

pub returns : goal.returns
returns c = λ cells h given. in_shape given.0 given.3 cells given.1 given.2 h given.5
