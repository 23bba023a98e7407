-- A path meets no arc of an order twice, so that it is no longer than the order.
use Rattle.std.proofs.Common.{◌≡◌, ℕ, ◌+◌, ◌<◌, ◌≤◌, List, [], ◌∷◌, length, get_or, arith, sym}
use Rattle.std.specs.List.{All}
use Rattle.std.proofs.lemmas.List.Elements.{All-nil, All-cons}
use Rattle.mintc_timing.specs.declared.parts.TimingArc.{TimingArc}
use Rattle.mintc_timing.specs.Paths.{Leads, arc_at}
use Rattle.mintc_timing.specs.Order.{IsOrder}
use Rattle.mintc_timing.proofs.SharedOrdered.{place, follows}

pub arcs_below : (arcs : List TimingArc) (a : ℕ) (path : List ℕ) (b most : ℕ) → length arcs ≤ most → Leads arcs a path b → All (λ n. n ≤ most) path
arcs_below arcs a [] b most h leads = All-nil (λ n. n ≤ most)
arcs_below arcs a (n ∷ path) b most h leads =
    All-cons (λ n. n ≤ most) n path (omega arith) (arcs_below arcs (arc_at arcs n).to path b most h leads.2)

module _ (arcs : List TimingArc) (order : List ℕ) (is_order : IsOrder arcs order) where
  -- From the place of its first arc on, a path has at most as many arcs as the order.
  rest_short : (a n : ℕ) (path : List ℕ) (b i : ℕ) → Leads arcs a (n ∷ path) b → i < length order → get_or order i 0 ≡ n → i + length (n ∷ path) ≤ length order
  rest_short a n [] b i h below is = omega arith
  rest_short a n (m ∷ path) b i h below is =
      let next = place arcs order is_order m h.2.0 in
      let later = follows arcs order is_order n m i next.0 below is next.1 next.2 (sym h.2.1) in
      let rest = rest_short (arc_at arcs n).to m path b next.0 h.2 next.1 next.2 in
      omega arith

  pub path_short : (a : ℕ) (path : List ℕ) (b : ℕ) → Leads arcs a path b → length path ≤ length order
  path_short a [] b h = omega arith
  path_short a (n ∷ path) b h =
      let first = place arcs order is_order n h.0 in
      let rest = rest_short a n path b first.0 h first.1 first.2 in
      omega arith
