-- What a search over ordinary links leaves.
use Rattle.std.proofs.Common.{ℕ, ◌<◌, ℤ, List, [], length, inl, inr, arith}
use Rattle.mintc_timing.specs.declared.link.Link.{Link}
use Rattle.mintc_constraints.specs.Ordinary.{IsOrdinary, constraints_of}
use Rattle.mintc_constraints.specs.Rooms.{Space}
use Rattle.mintc_ratio.specs.Searched.{HasSearched}
use Rattle.mintc_ratio.specs.declared.searching.Outcome.{Outcome}
use Rattle.mintc_ratio.specs.declared.searching.Outcome.TheVariants as outcome
use Rattle.mintc_ratio_laws.specs.Existence.{SearchesEnd}
use Rattle.mintc_ratio_laws.proofs.Best.{HasBest, best}
use Rattle.mintc_ratio_laws.proofs.SimpleLaws.{IsSimple}
use Rattle.mintc_ratio_laws.proofs.LeastLaws.{AtMost, HasStuck, Round, Short, Stuck, Tight, Turning, at, is_cycle, is_tight, none_forbids, of_nodes, rest, rest_short, rest_turning, steepest, stuck-decided, stuck_named, tight_named}
use Rattle.mintc_ratio_laws.proofs.SharedValuesLaws.{greatest, origin_values}

-- a room that holds only these
abbrev holding : List ℤ → List ℕ → Space
holding values chain = record { nodes = 0; links = 0; values = values; before = []; late = []; early = []; chain = chain }

module _ (nodes : ℕ) (links : List Link) (all : IsOrdinary (constraints_of nodes links)) where
  abbrev Ends : Type 0
  Ends = (room : Space) × (outcome : Outcome) × HasSearched (constraints_of nodes links) room outcome

  never : HasStuck nodes links all → Ends
  never (chain, named, stuck) = (holding [] chain, outcome.Never, (named, stuck))

  module _ (none : (w : List ℕ) → Short nodes links all w → Round nodes links all w × Stuck nodes links all w → ⊥) where
    least_of : (top : List ℕ) (turning : Turning nodes links all none top) (bound : (v : List ℕ) → Short nodes links all v → Turning nodes links all none v → AtMost nodes links all none v top) →
        IsSimple links (Tight nodes links all none top turning bound) → Ends
    least_of top turning bound (chain, named, tight) =
        let cycle = at nodes links all none top turning bound chain named tight in
        let free = none_forbids nodes links all none top turning bound chain named tight in
        let some : 0 < nodes = omega (arith, all.nodes) in (
          holding (origin_values (constraints_of nodes links) cycle all free some) chain,
          outcome.Least cycle,
          record {
            cycle_is = is_cycle nodes links all none top turning bound chain named tight;
            small = of_nodes nodes links all none top turning bound chain named tight;
            none_forbids = free;
            values = greatest (constraints_of nodes links) cycle all free some;
            chain = named;
            tight = is_tight nodes links all none top turning bound chain named tight;
          },
        )

    least : HasBest (Turning nodes links all none) (AtMost nodes links all none) (Short nodes links all) → Ends
    least (inl nothing) = absurd (nothing (rest nodes links all none) (rest_short nodes links all none) (rest_turning nodes links all none))
    least (inr (top, turning, bound)) = least_of top turning bound (tight_named nodes links all none top turning bound)

  abbrev StuckRound : List ℕ → Type 0
  StuckRound w = Round nodes links all w × Stuck nodes links all w

  ends : HasBest StuckRound (λ v w. Unit {0}) (Short nodes links all) → Ends
  ends (inl none) = least none (steepest nodes links all none)
  ends (inr (w, (h, stuck), any)) = never (stuck_named nodes links all w h stuck)

  pub searches_end : Ends
  searches_end = ends (best StuckRound (stuck-decided nodes links all) (λ v w. Unit {0}) (λ v w. inl tt) (λ u v w p q r g h. tt) (length links) nodes)

pub searches_end_lem : SearchesEnd
searches_end_lem nodes links all = searches_end nodes links all
