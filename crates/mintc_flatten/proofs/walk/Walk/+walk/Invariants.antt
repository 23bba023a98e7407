use Rattle.std.proofs.Common.{◌≡◌, ◌+◌, ◌*◌, drop}
use Rattle.mintc_flatten_binding.specs.NetsOfModules.{source_in}
use Rattle.mintc_flatten.specs.Places.{place_in}
use Rattle.mintc_flatten_hierarchy.specs.Walks.{steps_from, inside}
use Rattle.mintc_flatten.specs.Growing.{sizes, grown_all}
use Rattle.mintc_flatten.proofs.walk.Walk.+walk.Given as goal

abbrev pub decreases-enter : goal.decreases-enter
decreases-enter l = 2 * l.deep + 1

abbrev pub decreases-visit : goal.decreases-visit
decreases-visit l = 2 * l.deep

-- what is left grows the lists to the same
abbrev pub invariant-enter-loop-at : goal.invariant-enter-loop-at
invariant-enter-loop-at l = let s = source_in l.plan.source in let place = place_in l.place in
    grown_all s l.self (steps_from s (inside s l.deep) place (sizes l.self) (drop l.at l.items)) ≡ grown_all s l.initial.self (steps_from s (inside s l.deep) place (sizes l.initial.self) l.items)
