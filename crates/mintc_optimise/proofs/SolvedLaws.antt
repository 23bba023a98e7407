-- What a search over the links of a design finds is its least cycle.
use Rattle.mintc_timing.specs.Design.{Timing}
use Rattle.mintc_timing.specs.Limits.{IsDesign}
use Rattle.mintc_timing.specs.Links.{links_of, node_count}
use Rattle.mintc_timing.specs.Paths.{HasEnds}
use Rattle.mintc_constraints.specs.Ordinary.{Constraints, IsOrdinary, constraints_of}
use Rattle.mintc_constraints.specs.Rooms.{Space}
use Rattle.mintc_constraints.proofs.SharedChainLaws.{stuck_is_hopeless_lem}
use Rattle.mintc_ratio.specs.declared.searching.Outcome.{Outcome}
use Rattle.mintc_ratio.specs.declared.searching.Outcome.TheVariants.{Least, Never}
use Rattle.mintc_ratio.specs.Chains.{links_at}
use Rattle.mintc_ratio.specs.Searched.{HasSearched}
use Rattle.mintc_optimise.specs.Benches.{IsSolved}
use Rattle.mintc_optimise.specs.Bounded.{NeverOnlyWithBounds}
use Rattle.mintc_optimise.proofs.UnboundedLaws.{hopeless_is_bounded}
use Rattle.mintc_optimise.proofs.SharedWalkedLaws.{are_least}

module _ (t : Timing) (limits : IsDesign t.flat) (ends : HasEnds t) (room : Space) where
  abbrev list : Constraints
  list = constraints_of (node_count t.flat) (links_of t)

  -- What a search over the links of a design finds is solved of the design.
  pub solved : (outcome : Outcome) → HasSearched list room outcome → IsSolved t room outcome
  solved (Least cycle) h =
      let found = are_least t limits ends cycle room.values h.values h.cycle_is (links_at (links_of t) room.chain) h.chain.chain h.tight in
      (found.least, found.right)
  solved Never h = stuck_is_hopeless_lem t (links_at (links_of t) room.chain) limits ends h.0.chain h.1

  -- Where it finds that there is no cycle time, the design has a bound.
  pub bounded : IsOrdinary list → (outcome : Outcome) → HasSearched list room outcome → NeverOnlyWithBounds t.flat outcome
  bounded all (Least cycle) h = tt
  bounded all Never h = hopeless_is_bounded t limits ends all (solved Never h)
