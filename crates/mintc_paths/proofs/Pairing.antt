-- Traced paths and pairs.
use Rattle.std.proofs.Common.{◌≡◌, ℕ, ◌<◌, ℤ, pos, List, [], length, get_or, arith, refl, ap, ◌∙◌, sym, Option, Some, subst, add-zero}
use Rattle.std.proofs.lemmas.Int.{ints}
use Rattle.mintc_timing.specs.declared.parts.TimingArc.{TimingArc}
use Rattle.mintc_timing.specs.declared.parts.Pair.{Pair}
use Rattle.mintc_graph.specs.Rings.{total}
use Rattle.mintc_timing.specs.Design.{Design, Timing}
use Rattle.mintc_timing.specs.Order.{IsOrder}
use Rattle.mintc_timing.specs.Paths.{Leads, IsPath, input_of, output_of, HasExtremes, ArePairs}
use Rattle.mintc_timing.proofs.SharedOrdered.{all_among, none_round}
use Rattle.mintc_paths_sums.specs.declared.sums.Sums.{Sums}
use Rattle.mintc_paths_sums.specs.Sums.{sums_at}
use Rattle.mintc_paths.specs.declared.trace.Extreme.{Extreme}
use Rattle.mintc_paths.specs.declared.trace.Extreme.TheVariants.{Greatest, Least}
use Rattle.mintc_paths.specs.Sums.{AreSums}
use Rattle.mintc_paths.specs.Trace.{AtMostOf, sum_of, weight_of, extreme_of, AreBestSums, IsBestPath, IsOfPair, IsPairOf}
use Rattle.mintc_paths.proofs.Tracing.{some_of}

pub AreBestSums-from_sums : (extreme : Extreme) (arcs : List TimingArc) (order : List ℕ) (first : ℕ) (sums : List Sums) → AreSums arcs order (length order) first 1 sums →
    AreBestSums extreme arcs order (output_of first) sums
AreBestSums-from_sums Greatest arcs order first sums h = λ bit inside. rw (add-zero first) at (h.greatest bit 0 inside (omega arith))
AreBestSums-from_sums Least arcs order first sums h = λ bit inside. rw (add-zero first) at (h.least bit 0 inside (omega arith))

module _ (extreme : Extreme) (arcs : List TimingArc) (order : List ℕ) (is_order : IsOrder arcs order) (sums : List Sums) (from end : ℕ) (best_sums : AreBestSums extreme arcs order from sums) where
  abbrev sum : ℕ → Option ℤ
  sum bit = sum_of extreme (sums_at sums bit)

  abbrev weight : ℕ → ℤ
  weight = weight_of extreme arcs

  -- The best sum from a bit to itself is 0.
  zero_at : from < length sums → sum from ≡ Some (pos 0)
  zero_at inside =
      let here = best_sums from inside in
      let some = some_of (sum from) (λ z. AtMostOf extreme (pos 0) z) (here.bound [] tt refl) in
      let path = rw some.1 at here.attained in
      some.1 ∙ ap Some (sym path.3 ∙ ap (total weight) (none_round arcs order is_order path.0 from path.2))

  pub IsBestPath-from_trace : from < length sums → end < length sums → (path other : List ℕ) → Leads arcs from other end →
      ((start : ℕ) (best : ℤ) → AreBestSums extreme arcs order start sums → sum start ≡ Some (pos 0) → sum end ≡ Some best → Leads arcs start path end × (total weight path ≡ best)) →
      IsBestPath extreme arcs from end path
  IsBestPath-from_trace from_in end_in path other lead traced =
      let there = best_sums end end_in in
      let some = some_of (sum end) (λ z. AtMostOf extreme (total weight other) z) (there.bound other (all_among arcs order is_order from other end lead) lead) in
      let found = traced from some.0 best_sums (zero_at from_in) some.1 in
      record {
        leads = found.0;
        best = λ any goes. rw found.1 (rw some.1 at (there.bound any (all_among arcs order is_order from any end goes) goes));
      }

same_extreme : (extreme : Extreme) (design : Design) (pair : Pair) (path : List ℕ) → HasExtremes design pair → IsPath design.arcs pair.from path (input_of pair.to) →
    IsBestPath extreme design.arcs (output_of pair.from) (input_of pair.to) path → total (weight_of extreme design.arcs) path ≡ extreme_of extreme pair
same_extreme Greatest design pair path h is best =
    let a = h.greatest.attained in
    omega (arith, ints, best.best a.0 a.1.1, h.greatest.bound path is)
same_extreme Least design pair path h is best =
    let a = h.least.attained in
    omega (arith, ints, best.best a.0 a.1.1, h.least.bound path is)

-- some path between the elements of a pair
pub path_of_pair : (t : Timing) (from to : ℕ) → ArePairs t.flat t.pairs → IsPairOf t.pairs from to →
    (from < length t.flat.elements) × (to < length t.flat.elements) × ((path : List ℕ) × Leads t.flat.arcs (output_of from) path (input_of to))
path_of_pair t from to pairs h =
    let extremes : HasExtremes t.flat h.0 = subst (λ p. HasExtremes t.flat p) h.1.2 (pairs.each h.1.0 h.0 h.1.1) in
    let a = extremes.greatest.attained in
    (omega arith, omega arith, (a.0, rw (← h.2, ← h.3) a.1.1))

pub IsOfPair-from_best : (extreme : Extreme) (t : Timing) (from to : ℕ) (path : List ℕ) → ArePairs t.flat t.pairs → IsBestPath extreme t.flat.arcs (output_of from) (input_of to) path →
    IsOfPair extreme t from to path
IsOfPair-from_best extreme t from to path pairs h =
    let is : IsPath t.flat.arcs from path (input_of to) = (λ e. omega (arith, subst (λ xs. Leads t.flat.arcs (output_of from) xs (input_of to)) e h.leads), h.leads) in
    (is, λ k d below e f. same_extreme extreme t.flat (get_or t.pairs k d) path (pairs.each k d below) (rw (e, f) is) (rw (e, f) h))
