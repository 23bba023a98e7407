-- That each list of links has what a search over it leaves.
use Rattle.std.specs.Prelude.{◌<◌, ℕ, ℤ, List}
use Rattle.mintc_fraction.specs.Ratio.{Ratio}
use Rattle.mintc_timing.specs.declared.link.Link.{Link}
use Rattle.mintc_constraints.specs.Ordinary.{Constraints, IsOrdinary, Leads, constraints_of}
use Rattle.mintc_constraints.specs.Rooms.{Space}
use Rattle.mintc_ratio.specs.From.{AreGreatestFrom}
use Rattle.mintc_ratio.specs.Searched.{HasSearched}
use Rattle.mintc_ratio.specs.Tested.{NoneForbids}
use Rattle.mintc_ratio.specs.declared.searching.Outcome.{Outcome}

-- some walk leads from the node to node 0
abbrev pub LeadsBack : Constraints → ℕ → Type 0
LeadsBack list from = (walk : List ℕ) × Leads list.links from walk 0

-- At a cycle time that no chain of an ordinary list forbids there are values of the greatest walks from each node from
-- which some walk leads to node 0.
abbrev pub GreatestWalksExist : Type 0
GreatestWalksExist = (list : Constraints) (at : Ratio) (from : ℕ) → IsOrdinary list → NoneForbids list.links at →
    from < list.nodes → LeadsBack list from → (values : List ℤ) × AreGreatestFrom list at from values

-- Each ordinary list has an outcome of a search, and a room as the search leaves it.
abbrev pub SearchesEnd : Type 0
SearchesEnd = (nodes : ℕ) (links : List Link) → IsOrdinary (constraints_of nodes links) → (room : Space)
    × (outcome : Outcome) × HasSearched (constraints_of nodes links) room outcome
