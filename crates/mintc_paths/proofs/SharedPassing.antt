-- Arcs that leave no row that is reached change no sums.
use Rattle.std.proofs.Common.{◌≡◌, ◌≢◌, ℕ, ◌<◌, ◌≤◌, ◌+◌, ◌*◌, min, ℤ, Bool, true, false, List, length, get_or, arith, refl, ap, ◌∙◌, sym, Option, Some, None, subst}
use Rattle.std.specs.Int.{int_max, int_min}
use Rattle.mintc_timing.specs.declared.parts.TimingArc.{TimingArc}
use Rattle.mintc_timing.specs.Design.{Design}
use Rattle.mintc_timing.specs.Limits.{IsArc, IsDelay, IsDesign}
use Rattle.mintc_timing.specs.Order.{IsOrder}
use Rattle.mintc_timing.specs.Paths.{arc_at}
use Rattle.mintc_lanes.specs.Lanes.{lane_at, joined, AreJoined}
use Rattle.mintc_paths_sums.specs.declared.sums.Sums.{Sums}
use Rattle.mintc_paths_sums.specs.declared.sums.TheConstants.{NO_SUMS}
use Rattle.mintc_paths_sums.specs.Sums.{sums_at, IsAlike, IsBounded}
use Rattle.mintc_paths_sums.specs.Placed.{placed, row_of}
use Rattle.mintc_paths_sums.proofs.SharedPlaced.{length-placed}
use Rattle.mintc_paths_sums.proofs.SharedNoSums.{none_at}
use Rattle.mintc_paths.specs.Worklist.{IsOn, IsAwake}
use Rattle.mintc_paths.specs.declared.worklist.Worklist.{Worklist}
use Rattle.mintc_paths.specs.declared.rows.ArcSequence.{ArcSequence}
use Rattle.mintc_paths.specs.Sums.{moved, IsSequence, AreMarked, AreSums}
use Rattle.mintc_paths.proofs.SharedClimbing.{climb}
use Rattle.mintc_paths.proofs.Filling.{IsBounded-weaker, IsCarried, AreSums-more, arc_inside}
use Rattle.mintc_paths.proofs.Rowing.{alike_each, bounded_each, IsCarried-placed}

-- a lane that gets nothing stays
joined_absent : (choose : ℤ → ℤ → ℤ) (x y : Option ℤ) (w : ℤ) → y ≡ None → x ≡ joined choose x y w
joined_absent choose None None w e = refl
joined_absent choose (Some x) None w e = refl
joined_absent choose x (Some y) w e = absurd (cc)

greatest_absent : (to from : Sums) (w : ℤ) → from ≡ NO_SUMS → AreJoined int_max to.greatest from.greatest w to.greatest
greatest_absent to from w e lane below =
    joined_absent int_max (lane_at to.greatest lane) (lane_at from.greatest lane) w (ap (λ (s : Sums). lane_at s.greatest lane) e ∙ (none_at lane below).0)

least_absent : (to from : Sums) (w : ℤ) → from ≡ NO_SUMS → AreJoined int_min to.least from.least w to.least
least_absent to from w e lane below =
    joined_absent int_min (lane_at to.least lane) (lane_at from.least lane) w (ap (λ (s : Sums). lane_at s.least lane) e ∙ (none_at lane below).1)

-- what a place before the end and a place past it are cut to
pub at_place : (i n : ℕ) → i < n → min i n ≡ i
at_place i n low = omega arith

pub at_end : (i n : ℕ) → n ≤ i → min i n ≡ n
at_end i n past = omega arith

pub not_on : (b : Bool) → (b ≡ true → ⊥) → b ≡ false
not_on true h = absurd (h refl)
not_on false h = refl

-- an arc from a row without sums carries none
carried_none : (arc : TimingArc) (sums : List Sums) → sums_at sums arc.from ≡ NO_SUMS → IsCarried arc sums sums
carried_none arc sums none = record {
  others = λ bit ne. refl;
  greatest = greatest_absent (sums_at sums arc.to) (sums_at sums arc.from) arc.max none;
  least = least_absent (sums_at sums arc.to) (sums_at sums arc.from) arc.min none;
  bounded = λ most from to. IsBounded-weaker most (most + 1000000000) (sums_at sums arc.to) (omega arith) to;
}

-- The sums in the rows that an arc leaves and enters are small, and a lane with no greatest one leaves no least one.
pub record IsSmallAt (sums : List Sums) (arc : TimingArc) : Type 0 where
  pub from : IsBounded 20000000000000000 (sums_at sums arc.from)
  pub to : IsBounded 20000000000000000 (sums_at sums arc.to)
  pub alike : IsAlike (sums_at sums arc.from)

module _ (design : Design) (order : List ℕ) (is_order : IsOrder design.arcs order) (kept : IsDesign design) (sequence : ArcSequence) (n : ℕ) (is_sequence : IsSequence n design.arcs order sequence)
    (bits : n ≡ 2 * length design.elements + length design.inner) where
  -- the arc of the design at a place of the order
  abbrev pub arc_of : ℕ → TimingArc
  arc_of i = arc_at design.arcs (get_or order i 0)

  pub in_design : (i : ℕ) → i < length order → IsArc (length design.elements) (length design.inner) (arc_of i)
  in_design i low = arc_inside design.arcs order is_order (length design.elements) (length design.inner) kept.each_arc i low

  pub from_in : (i : ℕ) → i < length order → (arc_of i).from < n
  from_in i low = omega (arith, in_design i low)

  pub to_in : (i : ℕ) → i < length order → (arc_of i).to < n
  to_in i low = omega (arith, in_design i low)

  -- The rows that the arc at a place leaves and enters are two.
  pub row_in : (i : ℕ) → i < length order → (arc_at sequence.along.items i).from < n
  row_in i low = subst (λ (x : TimingArc). x.from < n) (sym (is_sequence.along.each i low)) (is_sequence.rows.of_bits.inside (arc_of i).from (from_in i low))

  pub row_to_in : (i : ℕ) → i < length order → (arc_at sequence.along.items i).to < n
  row_to_in i low = subst (λ (x : TimingArc). x.to < n) (sym (is_sequence.along.each i low)) (is_sequence.rows.of_bits.inside (arc_of i).to (to_in i low))

  pub max_in : (i : ℕ) → i < length order → IsDelay (arc_at sequence.along.items i).max
  max_in i low = subst (λ (x : TimingArc). IsDelay x.max) (sym (is_sequence.along.each i low)) (in_design i low).max

  pub min_in : (i : ℕ) → i < length order → IsDelay (arc_at sequence.along.items i).min
  min_in i low = subst (λ (x : TimingArc). IsDelay x.min) (sym (is_sequence.along.each i low)) (in_design i low).min

  pub rows_differ : (i : ℕ) → i < length order → (arc_at sequence.along.items i).from ≢ (arc_at sequence.along.items i).to
  rows_differ i low same =
      let h = is_sequence.rows.of_bits in
      let is = is_sequence.along.each i low in
      let rows_same : row_of sequence.rows.of_bits.items (arc_of i).from ≡ row_of sequence.rows.of_bits.items (arc_of i).to =
      sym (ap (λ (x : TimingArc). x.from) is) ∙ same ∙ ap (λ (x : TimingArc). x.to) is in
      let bits_same : (arc_of i).from ≡ (arc_of i).to =
      sym (h.leads (arc_of i).from (from_in i low)) ∙ ap (row_of sequence.rows.bits.items) rows_same ∙ h.leads (arc_of i).to (to_in i low) in
      omega (arith, is_order.ordered i i low low (sym bits_same))

  pub few_arcs : (i : ℕ) → i < length order → i * 1000000000 ≤ 20000000000000000
  few_arcs i low = omega (arith, is_order.count)

  module _ (first lanes : ℕ) (few : lanes ≤ 8) (sums : List Sums) (count : length sums ≡ n) where
    abbrev rows : List ℕ
    rows = sequence.rows.of_bits.items

    -- what `carry` asks of the sums in the rows that the arc at a place leaves and enters
    pub ends_small : (i : ℕ) → i < length order → AreSums design.arcs order i first lanes (placed rows sums) → IsSmallAt sums (arc_at sequence.along.items i)
    ends_small i low h =
        let small = λ (row : ℕ) (below : row < n).
        IsBounded-weaker (i * 1000000000) 20000000000000000 (sums_at sums row) (few_arcs i low) (bounded_each design.arcs order i first lanes n sequence.rows is_sequence.rows sums h row below) in
        record {
          from = small (arc_at sequence.along.items i).from (row_in i low);
          to = small (arc_at sequence.along.items i).to (row_to_in i low);
          alike = alike_each design.arcs order i first lanes n sequence.rows is_sequence.rows sums h (arc_at sequence.along.items i).from (row_in i low);
        }

    -- one more arc is carried along
    pub carried_along : (new : List Sums) → length new ≡ length sums → (i : ℕ) → i < length order → IsCarried (arc_at sequence.along.items i) sums new →
        AreSums design.arcs order i first lanes (placed rows sums) → AreSums design.arcs order (i + 1) first lanes (placed rows new)
    carried_along new same i low carried h =
        let of_rows : IsCarried (moved rows (arc_of i)) sums new = subst (λ (a : TimingArc). IsCarried a sums new) (is_sequence.along.each i low) carried in
        let done = IsCarried-placed n rows sequence.rows.bits.items is_sequence.rows.of_bits sums new (arc_of i) (from_in i low) (to_in i low) of_rows in
        let before = length-placed rows sums in
        let after = length-placed rows new in
        let of = is_sequence.rows.of_bits.count in
        AreSums-more design.arcs order is_order i first lanes (placed rows sums) (placed rows new) (omega arith) low (omega (arith, from_in i low)) (omega (arith, to_in i low)) few done h

    module _ (reached : List Bool) (marked : AreMarked sums reached) where
      -- Where none is awake from one place on and before the next, no arc there leaves a row that is reached.
      pub passed_next : (awake : Worklist) (k next : ℕ) → k ≤ next → k ≤ length order → IsAwake sequence.along.items k reached awake →
          ((other : ℕ) → k ≤ other → other < next → IsOn awake other → ⊥) →
          AreSums design.arcs order k first lanes (placed rows sums) → AreSums design.arcs order (min next (length order)) first lanes (placed rows sums)
      passed_next awake k next low high is_awake none h = climb (λ x. AreSums design.arcs order x first lanes (placed rows sums)) k (min next (length order)) (omega arith) step h
        where
          step : (i : ℕ) → k ≤ i → i < min next (length order) → AreSums design.arcs order i first lanes (placed rows sums) → AreSums design.arcs order (i + 1) first lanes (placed rows sums)
          step i from below =
              let left : ℕ = (arc_at sequence.along.items i).from in
              let off = not_on (get_or reached left false) (λ on. none i from (omega arith) (is_awake.each i from (omega arith) on)) in
              carried_along sums refl i (omega arith) (carried_none (arc_at sequence.along.items i) sums (marked.none left (omega (arith, row_in i (omega arith))) off))
