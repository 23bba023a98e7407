-- Rows that are reached and their marks. Arcs that leave no row that is reached change no marks.
use Rattle.std.proofs.Common.{◌≡◌, ◌≢◌, ◌<◌, ◌≤◌, ◌+◌, ◌*◌, ◌%◌, ℕ, min, Bool, true, false, List, length, get_or, set, length-set, get_or-set_same, get_or-set_other, ⊎_elim, arith, refl, sym, ◌∙◌, ap, subst}
use Rattle.std.proofs.lemmas.Bool.{cases_eq}
use Rattle.std.proofs.lemmas.Nat.Bits.{bit_at-zero}
use Rattle.mintc_timing.specs.declared.parts.TimingArc.{TimingArc}
use Rattle.mintc_timing.specs.Design.{Design}
use Rattle.mintc_timing.specs.Limits.{IsDesign}
use Rattle.mintc_timing.specs.Order.{IsOrder}
use Rattle.mintc_timing.specs.Paths.{arc_at, output_of}
use Rattle.mintc_paths_sums.specs.Placed.{row_of}
use Rattle.mintc_paths.specs.Worklist.{IsOn, IsAwake}
use Rattle.mintc_paths.specs.declared.worklist.Worklist.{Worklist}
use Rattle.mintc_paths_count.specs.declared.marks.Marks.{Marks}
use Rattle.mintc_paths_count.specs.declared.marks.TheConstants.{NO_MARKS}
use Rattle.mintc_paths.specs.declared.rows.ArcSequence.{ArcSequence}
use Rattle.mintc_paths_count.specs.Marks.{marks_at, mark_in, IsMarkOf, AreMarksAlong, AreMarksBegun, AreMarksReached}
use Rattle.mintc_paths.specs.Sums.{LeadsBack, IsSequence}
use Rattle.mintc_paths_count.proofs.Leading.{AreCarriedMarks, AreMarksAlong-more, IsMarkOf-same, rows_apart}
use Rattle.mintc_paths.proofs.SharedClimbing.{climb}
use Rattle.mintc_paths.proofs.SharedPassing.{from_in, to_in, row_in, not_on}

-- a row that gets marks and is reached
pub noted_more : (old new : List Marks) (reached : List Bool) (row : ℕ) → length new ≡ length old → ((other : ℕ) → other ≢ row → marks_at new other ≡ marks_at old other) →
    AreMarksReached old reached → AreMarksReached new (set reached row true)
noted_more old new reached row same others m = record {
  count = length-set {A = Bool} reached row true ∙ m.count ∙ sym same;
  none = λ r below off. grind (arith, get_or-set_same reached row true false, get_or-set_other reached row r true false, m.count, m.none r, others r);
}

-- no lane of no marks is set
pub none_in : (marks : Marks) (lane : ℕ) → lane < 128 → marks ≡ NO_MARKS → mark_in marks lane ≡ 0
none_in marks lane low e = grind (arith, e, bit_at-zero (lane % 64))

-- what a call of set leaves
pub record IsBegunMark (old new : List Marks) (row lane : ℕ) : Type 0 where
  pub others : (other : ℕ) → other ≢ row → marks_at new other ≡ marks_at old other
  pub lanes : (other : ℕ) → other ≢ lane → mark_in (marks_at new row) other ≡ mark_in (marks_at old row) other
  pub own : mark_in (marks_at new row) lane ≡ 1

module _ (n : ℕ) (rows bits : List ℕ) (h : LeadsBack n rows bits) (first lane : ℕ) (few : lane < 128) (old new : List Marks) (inside : output_of (first + lane) < n)
    (begun : IsBegunMark old new (row_of rows (output_of (first + lane))) lane) (before : AreMarksBegun n rows first lane old) where
  abbrev out : ℕ
  out = output_of (first + lane)

  abbrev mark_at : List Marks → ℕ → ℕ → ℕ
  mark_at marks bit other = mark_in (marks_at marks (row_of rows bit)) other

  elsewhere : (bit other : ℕ) → bit < n → bit ≢ out → mark_at new bit other ≡ mark_at old bit other
  elsewhere bit other below ne = ap (λ (m : Marks). mark_in m other) (begun.others (row_of rows bit) (rows_apart n rows bits h bit out below inside ne))

  same_lane : (bit other : ℕ) → bit < n → other ≢ lane → mark_at new bit other ≡ mark_at old bit other
  same_lane bit other below ne = grind (arith, begun.lanes other, elsewhere bit other)

  own_lane : (bit : ℕ) → bit < n → IsMarkOf (bit ≡ out) (mark_at new bit lane)
  own_lane bit below = ⊎_elim
      (λ (e : bit ≡ out). record { sound = λ _. e; whole = λ _. subst (λ b. mark_at new b lane ≡ 1) (sym e) begun.own })
      (λ (ne : bit ≢ out). record {
        sound = λ one. absurd (omega (arith, elsewhere bit lane below ne, before.absent bit lane below (omega arith) few));
        whole = λ e. absurd (ne e);
      })
      (cases_eq bit out)

  -- one lane more is begun
  pub AreMarksBegun-more : AreMarksBegun n rows first (lane + 1) new
  AreMarksBegun-more = record {
    begun = λ bit other below low. ⊎_elim
        (λ (e : other ≡ lane). subst (λ k. IsMarkOf (bit ≡ output_of (first + k)) (mark_at new bit k)) (sym e) (own_lane bit below))
        (λ (ne : other ≢ lane).
        IsMarkOf-same (bit ≡ output_of (first + other)) (bit ≡ output_of (first + other)) (mark_at old bit other) (mark_at new bit other) (λ p. p) (λ p. p) (same_lane bit other below ne)
        (before.begun bit other below (omega arith)))
        (cases_eq other lane);
    absent = λ bit other below high low. same_lane bit other below (omega arith) ∙ before.absent bit other below (omega arith) low;
  }

-- an arc from a row without marks carries none
carried_none : (arc : TimingArc) (marks : List Marks) → marks_at marks arc.from ≡ NO_MARKS → AreCarriedMarks arc marks marks
carried_none arc marks none = record {
  others = λ row ne. refl;
  joined = λ lane low. omega (arith, none_in (marks_at marks arc.from) lane low none);
}

module _ (design : Design) (order : List ℕ) (is_order : IsOrder design.arcs order) (kept : IsDesign design) (sequence : ArcSequence) (n : ℕ) (is_sequence : IsSequence n design.arcs order sequence)
    (bits : n ≡ 2 * length design.elements + length design.inner) (first lanes : ℕ) (few : lanes ≤ 128) where
  -- the marks along so many arcs
  abbrev pub Along : ℕ → List Marks → Type 0
  Along k marks = AreMarksAlong n design.arcs order k sequence.rows.of_bits.items first lanes marks

  -- one more arc is carried along
  pub marked_along : (k : ℕ) → k < length order → (old new : List Marks) → AreCarriedMarks (arc_at sequence.along.items k) old new → Along k old → Along (k + 1) new
  marked_along k low old new carried before =
      AreMarksAlong-more n design.arcs order is_order sequence.rows.of_bits.items sequence.rows.bits.items is_sequence.rows.of_bits k first lanes few low
      (from_in design order is_order kept sequence n is_sequence bits k low) (to_in design order is_order kept sequence n is_sequence bits k low)
      old new (subst (λ (arc : TimingArc). AreCarriedMarks arc old new) (is_sequence.along.each k low) carried) before

  module _ (marks : List Marks) (count : length marks ≡ n) (reached : List Bool) (marked : AreMarksReached marks reached) where
    -- Where none is awake from one place on and before the next, no arc there leaves a row that is reached.
    pub unmarked_next : (awake : Worklist) (k next : ℕ) → k ≤ next → k ≤ length order → IsAwake sequence.along.items k reached awake →
        ((other : ℕ) → k ≤ other → other < next → IsOn awake other → ⊥) → Along k marks → Along (min next (length order)) marks
    unmarked_next awake k next low high is_awake none h = climb (λ x. Along x marks) k (min next (length order)) (omega arith) step h
      where
        step : (i : ℕ) → k ≤ i → i < min next (length order) → Along i marks → Along (i + 1) marks
        step i from below =
            let left : ℕ = (arc_at sequence.along.items i).from in
            let inside = row_in design order is_order kept sequence n is_sequence bits i (omega arith) in
            let off = not_on (get_or reached left false) (λ on. none i from (omega arith) (is_awake.each i from (omega arith) on)) in
            marked_along i (omega arith) marks marks (carried_none (arc_at sequence.along.items i) marks (marked.none left (omega arith) off))
