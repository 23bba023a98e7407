-- What the search for the least cycle time leaves.
use Rattle.std.specs.Prelude.{◌*◌, ℕ, pos, ◌≤ℤ◌}
use Rattle.mintc_fraction.specs.Ratio.{Ratio, IsFraction, IsLowest}
use Rattle.mintc_timing.specs.Links.{IsTight, IsStuck}
use Rattle.mintc_constraints.specs.Ordinary.{Constraints, most_nodes}
use Rattle.mintc_constraints.specs.Rooms.{Space}
use Rattle.mintc_ratio.specs.declared.searching.Outcome.{Outcome}
use Rattle.mintc_ratio.specs.declared.searching.Outcome.TheVariants.{Least, Never}
use Rattle.mintc_ratio.specs.Chains.{links_at, NamesChain}
use Rattle.mintc_ratio.specs.Greatest.{AreGreatest}
use Rattle.mintc_ratio.specs.Sums.{most_delay}
use Rattle.mintc_ratio.specs.Tested.{NoneForbids}

-- A cycle time in lowest terms that is a chain's delay over its cycles: at most 4.0034 * 10^13 over at most 20,017.
pub record IsCycle (cycle : Ratio) : Type 0 where
  pub fraction : IsFraction cycle
  pub lowest : IsLowest cycle
  pub low : pos 0 ≤ℤ cycle.num
  pub num : cycle.num ≤ℤ most_delay
  pub den : cycle.den ≤ℤ pos most_nodes

-- It is the ratio of a chain that enters none of so many nodes twice: smaller for a list of fewer nodes.
abbrev pub IsOfNodes : ℕ → Ratio → Type 0
IsOfNodes nodes cycle = (cycle.num ≤ℤ pos (nodes * 2000000000)) × (cycle.den ≤ℤ pos nodes)

-- The least cycle time that no chain forbids, the values of the greatest walks at it, and a chain in the room that
-- forbids every smaller one.
pub record IsLeast (list : Constraints) (cycle : Ratio) (room : Space) : Type 0 where
  pub cycle_is : IsCycle cycle
  pub small : IsOfNodes list.nodes cycle
  pub none_forbids : NoneForbids list.links cycle
  pub values : AreGreatest list cycle room.values
  pub chain : NamesChain list.links room.chain
  pub tight : IsTight (links_at list.links room.chain) cycle.num cycle.den

-- What a search leaves in a room: the least cycle time, or a chain that forbids every one.
abbrev pub HasSearched : Constraints → Space → Outcome → Type 0
HasSearched list room (Least cycle) = IsLeast list cycle room
HasSearched list room Never = NamesChain list.links room.chain × IsStuck (links_at list.links room.chain)
