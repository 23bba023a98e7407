-- The values of the greatest walks from an element.
use Rattle.std.specs.Prelude.{◌≡◌, ◌<◌, ℕ, ℤ, List, length}
use Rattle.mintc_fraction.specs.Ratio.{Ratio}
use Rattle.mintc_graph_walks.specs.Bounds.{IsWithin}
use Rattle.mintc_graph_walks.specs.Walks.{value_at}
use Rattle.mintc_timing.specs.Design.{Design, Timing}
use Rattle.mintc_timing.specs.Links.{node_count}
use Rattle.mintc_slack.specs.PairRoom.{AreFrom}

-- Numerators that are small enough to be reckoned with.
abbrev pub AreSmall : Design → List ℤ → Type 0
AreSmall design values = (node : ℕ) → node < node_count design → IsWithin 200000000000000000 (value_at values node)

-- The values of the greatest walks from the moment of element l, one for each node, and small.
pub record AreSettled (t : Timing) (at : Ratio) (l : ℕ) (values : List ℤ) : Type 0 where
  pub count : length values ≡ node_count t.flat
  pub small : AreSmall t.flat values
  pub from : AreFrom t at l values
