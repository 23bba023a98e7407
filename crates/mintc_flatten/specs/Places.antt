-- A scope in which the walk stands, as the code has it.
use Rattle.mintc_flatten_hierarchy.specs.Walks.{Place, place_at}
use Rattle.mintc_flatten.specs.declared.walk.Place as scope

-- the scope that the code has
abbrev pub place_in : scope.Place → Place
place_in p = place_at p.module_nets.part.now p.scope p.first
