-- Sums that bound all paths at once.
use Rattle.std.proofs.Common.{◌≡◌, ◌≢◌, ◌<◌, ◌≤◌, ◌+◌, ◌*◌, ⊎_elim, ℕ, ℤ, pos, ◌+ℤ◌, ◌≤ℤ◌, List, [], ◌∷◌, length, get_or, replicate, arith, ap, sym, All}
use Rattle.std.proofs.lemmas.Bool.{cases_eq, cases_lt}
use Rattle.std.proofs.lemmas.Int.{ints}
use Rattle.std.proofs.lemmas.List.{get_or-replicate, get_or_past, length-replicate}
use Rattle.mintc_timing.specs.declared.parts.TimingArc.{TimingArc}
use Rattle.mintc_timing.specs.Order.{IsOrder}
use Rattle.mintc_timing.specs.Paths.{Leads, arc_at, greatest_delay}
use Rattle.mintc_timing.proofs.SharedOrdered.{place}
use Rattle.mintc_paths.specs.Longest.{bit_sum, AreCarried, AreRunsShort}

-- before any arc
pub none_at : (n bit : ℕ) → bit_sum (replicate n (pos 0)) bit ≡ pos 0
none_at n bit = ⊎_elim (λ (low : bit < n). get_or-replicate n bit (pos 0) (pos 0) low) (λ (past : n ≤ bit). get_or_past (replicate n (pos 0)) bit (pos 0) (omega (arith, length-replicate n (pos 0)))) (cases_lt bit n)

pub AreCarried-zeros : (arcs : List TimingArc) (order : List ℕ) (sums : List ℤ) → ((bit : ℕ) → bit_sum sums bit ≡ pos 0) → AreCarried arcs order 0 sums
AreCarried-zeros arcs order sums zero = record {
  low = λ bit. omega (arith, ints, zero bit);
  high = λ bit. omega (arith, ints, zero bit);
  carried = λ i below. absurd (omega arith);
}

module _ (arcs : List TimingArc) (order : List ℕ) (is_order : IsOrder arcs order) where
  -- the arc at a place of the order
  abbrev arc_of : ℕ → TimingArc
  arc_of i = arc_at arcs (get_or order i 0)

  -- one more arc, by which only the sum at its end changes
  pub carried_more : (k : ℕ) (sums new : List ℤ) → k < length order → AreCarried arcs order k sums → ((bit : ℕ) → bit ≢ (arc_of k).to → bit_sum new bit ≡ bit_sum sums bit) →
      bit_sum sums (arc_of k).to ≤ℤ bit_sum new (arc_of k).to → (bit_sum sums (arc_of k).from +ℤ (arc_of k).max) ≤ℤ bit_sum new (arc_of k).to →
      bit_sum new (arc_of k).to ≤ℤ pos ((k + 1) * 1000000000) → AreCarried arcs order (k + 1) new
  carried_more k sums new below h others kept raised limit = record {
    low = λ bit. omega (arith, ints, h.low bit, grows bit);
    high = λ bit. ⊎_elim
        (λ (is : bit ≡ (arc_of k).to). rw is limit)
        (λ (other : bit ≢ (arc_of k).to). omega (arith, ints, others bit other, h.high bit))
        (cases_eq bit (arc_of k).to);
    carried = λ i low. ⊎_elim
        (λ (before : i < k). omega (arith, ints, unmoved i (omega arith), h.carried i before, grows (arc_of i).to))
        (λ (last : k ≤ i). let is : i ≡ k = omega arith in rw is (omega (arith, ints, unmoved k (omega arith))))
        (cases_lt i k);
  }
    where
      grows : (bit : ℕ) → bit_sum sums bit ≤ℤ bit_sum new bit
      grows bit = ⊎_elim
          (λ (is : bit ≡ (arc_of k).to). rw is kept)
          (λ (other : bit ≢ (arc_of k).to). omega (arith, ints, others bit other))
          (cases_eq bit (arc_of k).to)

      unmoved : (i : ℕ) → i ≤ k → bit_sum new (arc_of i).from ≡ bit_sum sums (arc_of i).from
      unmoved i low = others (arc_of i).from (λ e. omega (arith, is_order.ordered k i below (omega arith) (sym e)))

  -- Along arcs that lead on, a sum grows by at least their delays.
  along : (sums : List ℤ) → AreCarried arcs order (length order) sums → (from : ℕ) (path : List ℕ) (to : ℕ) → Leads arcs from path to →
      (bit_sum sums from +ℤ greatest_delay arcs path) ≤ℤ bit_sum sums to
  along sums h from [] to leads = omega (arith, ints, ap (bit_sum sums) leads)
  along sums h from (n ∷ path) to (below, at, leads) =
      let found = place arcs order is_order n below in
      let here = rw found.2 at (h.carried found.0 found.1) in
      omega (arith, ints, ap (bit_sum sums) at, along sums h (arc_at arcs n).to path to leads)

-- where no row has a sum above the limit, no bit has
pub within_at : (sums : List ℤ) (row : ℕ) → All (λ z. z ≤ℤ pos 1000000000) sums → bit_sum sums row ≤ℤ pos 1000000000
within_at sums row all = grind (arith, ints, get_or_past, all row (pos 0))

-- Where no sum is above the limit, no run of arcs is.
pub AreRunsShort-carried : (arcs : List TimingArc) (order : List ℕ) (sums : List ℤ) → IsOrder arcs order → AreCarried arcs order (length order) sums →
    All (λ z. z ≤ℤ pos 1000000000) sums → AreRunsShort arcs
AreRunsShort-carried arcs order sums is_order h all = λ from path bit is.
    omega (arith, ints, along arcs order is_order sums h from path bit is, h.low from, within_at sums bit all)
