-- Links weighed against values that meet them all.
use Rattle.std.specs.Prelude.{◌≡◌, ◌<◌, ℕ, ℤ, pos, ◌-ℤ◌, ◌+ℤ◌, ◌≤ℤ◌, ◌<ℤ◌, List, length, map, All}
use Rattle.std.specs.List.Sorted.{IsPermutation}
use Rattle.mintc_fraction.specs.Ratio.{Ratio}
use Rattle.mintc_timing.specs.declared.link.Link.{Link}
use Rattle.mintc_timing.specs.Links.{IsMet}
use Rattle.mintc_constraints.specs.Ordinary.{Constraints, IsOrdinary}
use Rattle.mintc_ratio.specs.From.{AreGreatestFrom, IsAsked}
use Rattle.mintc_ratio.specs.Greatest.{asked_by_link}
use Rattle.mintc_slack.specs.Short.{IsShortCycle}
use Rattle.mintc_slack.specs.declared.reduced_costs.ReducedCost.{ReducedCost}
use Rattle.mintc_slack.specs.declared.nearest.TheConstants.{FAR}
use Rattle.mintc_graph_walks.specs.Bounds.{IsWithin}
use Rattle.mintc_graph_walks.specs.Walks.{value_at}

-- by how much the value of a link's end exceeds what the link brings there
abbrev pub gap_of : Ratio → List ℤ → Link → ReducedCost
gap_of at potentials k = record {
  from = k.from;
  rest = value_at potentials k.to -ℤ value_at potentials k.from -ℤ asked_by_link at k;
  to = k.to;
}

-- Small values that meet each of the links, as numerators over the cycle's denominator, one for each node.
pub record ArePotentials (list : Constraints) (at : Ratio) (potentials : List ℤ) : Type 0 where
  pub ordinary : IsOrdinary list
  pub cycle : IsShortCycle at
  pub count : length potentials ≡ list.nodes
  pub met : All (IsMet at.num at.den (value_at potentials)) list.links
  pub small : (node : ℕ) → node < list.nodes → IsWithin 30000000000000000 (value_at potentials node)

-- The potentials are the values of the greatest walks from the hub, and the gaps are those of the links over them, in
-- some order.
pub record AreGaps (list : Constraints) (at : Ratio) (hub : ℕ) (potentials : List ℤ)
    (gaps : List ReducedCost) : Type 0 where
  pub potentials_are : ArePotentials list at potentials
  pub greatest : AreGreatestFrom list at hub potentials
  pub permutation : IsPermutation (map (gap_of at potentials) list.links) gaps

-- The gap leads from one of so many nodes to one of them, and is from 0 to FAR.
pub record IsInside (count : ℕ) (g : ReducedCost) : Type 0 where
  pub from : g.from < count
  pub to : g.to < count
  pub low : pos 0 ≤ℤ g.rest
  pub high : g.rest ≤ℤ FAR

-- from 0 to FAR
abbrev pub AreInRange : List ℤ → Type 0
AreInRange distances = (node : ℕ) → node < length distances → (pos 0 ≤ℤ value_at distances node)
    × (value_at distances node ≤ℤ FAR)

-- The node itself is at no distance, and a node that isn't far has the distance of some walk to it: what the walk
-- asks for is less by that than its ends differ.
pub record AreDistances (list : Constraints) (at : Ratio) (potentials : List ℤ) (from : ℕ)
    (distances : List ℤ) : Type 0 where
  pub here : value_at distances from ≡ pos 0
  pub walked : (node : ℕ) → node < list.nodes → value_at distances node <ℤ FAR →
      IsAsked list.links at from node (value_at potentials node -ℤ value_at potentials from -ℤ value_at distances node)

-- Distances in place of others: they are from 0 to FAR, as many, and whatever the gaps are those of, distances of
-- walks where the others were.
pub record AreShorter (hub : ℕ) (gaps : List ReducedCost) (old new : List ℤ) : Type 0 where
  pub range : AreInRange new
  pub count : length new ≡ length old
  pub kept : (list : Constraints) (at : Ratio) (potentials : List ℤ) (from : ℕ) →
      AreGaps list at hub potentials gaps → length old ≡ list.nodes →
      AreDistances list at potentials from old → AreDistances list at potentials from new

-- No gap makes the distance of its end less.
abbrev pub AreLeast : List ReducedCost → List ℤ → Type 0
AreLeast gaps distances = All (λ g. value_at distances g.to ≤ℤ (value_at distances g.from +ℤ g.rest)) gaps

-- Distances from a node that are the least, and none of them is far.
pub record AreShortest (hub : ℕ) (gaps : List ReducedCost) (from : ℕ) (distances : List ℤ) : Type 0 where
  pub near : (node : ℕ) → node < length distances → (pos 0 ≤ℤ value_at distances node)
      × (value_at distances node <ℤ FAR)
  pub least : AreLeast gaps distances
  pub walked : (list : Constraints) (at : Ratio) (potentials : List ℤ) → AreGaps list at hub potentials gaps →
      length distances ≡ list.nodes → AreDistances list at potentials from distances
