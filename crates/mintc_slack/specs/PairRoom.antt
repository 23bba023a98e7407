-- What is left of a pair: how much its delay may grow before a chain through it takes more than its cycles.
use Rattle.std.specs.Prelude.{◌≡◌, ◌<◌, ℕ, ℤ, pos, ◌+ℤ◌, ◌*ℤ◌, ◌≤ℤ◌, ◌<ℤ◌, neg_ℤ, List, All}
use Rattle.mintc_fraction.specs.Ratio.{Ratio}
use Rattle.mintc_graph_walks.specs.Walks.{value_at}
use Rattle.mintc_timing.specs.declared.parts.Pair.{Pair}
use Rattle.mintc_timing.specs.declared.link.Link.{Link}
use Rattle.mintc_timing.specs.Design.{Design, Timing}
use Rattle.mintc_timing.specs.Links.{links_of, element_node, output_node, reach_link, IsMet, node_count}
use Rattle.mintc_constraints.specs.Ordinary.{Leads}
use Rattle.mintc_ratio.specs.Chains.{links_at}
use Rattle.mintc_ratio.specs.Greatest.{asked_by, asked_by_link}

-- The values of the greatest walks from the moment of an element, as numerators over the cycle time's denominator: that
-- node has 0, each link is met, and each value is what some walk asks for.
pub record AreFrom (t : Timing) (at : Ratio) (l : ℕ) (values : List ℤ) : Type 0 where
  pub zero : value_at values (element_node t.flat l) ≡ pos 0
  pub met : All (IsMet at.num at.den (value_at values)) (links_of t)
  pub walked : (node : ℕ) → node < node_count t.flat → (walk : List ℕ)
      × Leads (links_of t) (element_node t.flat l) walk node
      × (asked_by at (links_at (links_of t) walk) ≡ value_at values node)

-- the link of a pair
abbrev pub reach_of : Design → Pair → Link
reach_of design p = reach_link design p.from p.to p.max

-- What the greatest walk from the pair's end back to its beginning, and the pair itself, leave of their cycles.
abbrev pub room_of : Design → Ratio → List ℤ → Pair → ℤ
room_of design at values p = neg_ℤ (value_at values (output_node design p.from) +ℤ asked_by_link at (reach_of design p))

-- u is the greatest whole number of femtoseconds that fits in x, a numerator over the denominator.
pub record IsWhole (at : Ratio) (x u : ℤ) : Type 0 where
  pub fits : (u *ℤ at.den) ≤ℤ x
  pub most : x <ℤ ((u +ℤ pos 1) *ℤ at.den)
