-- Bits that have one place, one after another.
use Rattle.std.proofs.Common.{◌≡◌, ◌≢◌, ℕ, ◌<◌, ◌≤◌, ◌+◌, Bool, IsTrue, List, [], ◌∷◌, ◌++◌, length, arith, ap, ◌∙◌, sym, ◌⊎◌, inl, inr, ⊎_elim, subst}
use Rattle.std.proofs.lemmas.Bool.{cases_eq, cases_lt}
use Rattle.std.proofs.lemmas.List.{get_or_append_left, length-append}
use Rattle.std.proofs.Math.Seq.{get_or-append_seam}
use Rattle.mintc_checker.specs.declared.course.Places.{Places}
use Rattle.mintc_checker.specs.declared.course.Step.{Step}
use Rattle.mintc_checker.specs.Course.{number_at, place_at, step_at, AreApart, AreFree, AreLasts, ArePlaces, IsBegun, IsEntered, IsEntry, IsExit, IsGiven, IsMarked, IsOver, Precedes}
use Rattle.mintc_checker.proofs.Placing.{entry_own, entry_other}

-- a list with one more number at its end
module _ (xs ys : List ℕ) (y : ℕ) (is : xs ≡ ys ++ y ∷ []) where
  end_count : length xs ≡ length ys + 1
  end_count = omega (arith, ap (λ (zs : List ℕ). length zs) is, length-append ys (y ∷ []))

  end_is : number_at xs (length ys) ≡ y
  end_is = ap (λ zs. number_at zs (length ys)) is ∙ get_or-append_seam ys y [] 0

  front_is : (i : ℕ) → i < length ys → number_at xs i ≡ number_at ys i
  front_is i low = ap (λ zs. number_at zs i) is ∙ get_or_append_left ys (y ∷ []) 0 i low

-- the same places in other hands
module _ (IsFirst : ℕ → Type 0) (arcs : List Step) (lasts : List Bool) (k : ℕ) (old new : Places) (items : new.of_bits.items ≡ old.of_bits.items) (given : new.given ≡ old.given) where
  same_place : (bit : ℕ) → place_at new.of_bits.items bit ≡ place_at old.of_bits.items bit
  same_place bit = ap (λ xs. place_at xs bit) items

  pub ArePlaces-same : ArePlaces IsFirst arcs lasts k old → ArePlaces IsFirst arcs lasts k new
  ArePlaces-same h = record {
    below = λ bit. omega (arith, h.below bit, same_place bit);
    begun = λ bit some. h.begun bit (λ z. some (same_place bit ∙ z));
    placed = λ bit b z. h.placed bit b (sym (same_place bit) ∙ z);
    shared = λ bit other ne some e. h.shared bit other ne (λ z. some (same_place bit ∙ z)) (sym (same_place bit) ∙ e ∙ same_place other);
  }

-- Places that are apart are those of the first bits.
pub ArePlaces-first : (arcs : List Step) (lasts : List Bool) (places : Places) → AreApart places → ArePlaces (λ bit. place_at places.of_bits.items bit ≢ 0) arcs lasts 0 places
ArePlaces-first arcs lasts places h = record {
  below = h.below;
  begun = λ bit some. inl some;
  placed = λ bit b. ⊎_elim (λ some. some) (λ e. absurd (omega (arith, e.1))) b;
  shared = λ bit other ne some same. absurd (h.apart bit other ne some same);
}

pub AreFree-none : (arcs : List Step) (lasts : List Bool) (places : Places) → length places.free.items ≡ 0 → AreFree arcs lasts 0 places
AreFree-none arcs lasts places none = record {
  some = λ i low. absurd (omega arith);
  below = λ i low. absurd (omega arith);
  apart = λ i j before low. absurd (omega arith);
  over = λ i bit low. absurd (omega arith);
}

-- The first bits said otherwise.
pub ArePlaces-alike : (A B : ℕ → Type 0) (arcs : List Step) (lasts : List Bool) (k : ℕ) (places : Places) → ((bit : ℕ) → A bit → B bit) → ((bit : ℕ) → B bit → A bit) →
    ArePlaces A arcs lasts k places → ArePlaces B arcs lasts k places
ArePlaces-alike A B arcs lasts k places there back h = record {
  below = h.below;
  begun = λ bit some. ⊎_elim (λ first. inl (there bit first)) (λ e. inr e) (h.begun bit some);
  placed = λ bit b. h.placed bit (⊎_elim (λ first. inl (back bit first)) (λ e. inr e) b);
  shared = λ bit other ne some same. ⊎_elim (λ p. inl (alike bit other p)) (λ p. inr (alike other bit p)) (h.shared bit other ne some same);
}
  where
    alike : (bit other : ℕ) → Precedes A arcs lasts bit other → Precedes B arcs lasts bit other
    alike bit other p = record { last = p.last; inside = p.inside; marked = p.marked; leaves = p.leaves; before = p.before; entered = λ first. p.entered (back other first) }

module _ (IsFirst : ℕ → Type 0) (arcs : List Step) (lasts : List Bool) (are_lasts : AreLasts arcs lasts) (k : ℕ) (low : k < length arcs) where
  abbrev to : ℕ
  to = (step_at arcs k).to

  abbrev from : ℕ
  from = (step_at arcs k).from

  pub widen : (bit : ℕ) → IsBegun IsFirst arcs k bit → IsBegun IsFirst arcs (k + 1) bit
  widen bit b = ⊎_elim (λ first. inl first) (λ e. inr (e.0, omega (arith, e.1), e.2)) b

  narrow_entered : (bit : ℕ) → bit ≢ to → IsEntered arcs (k + 1) bit → IsEntered arcs k bit
  narrow_entered bit ne e = ⊎_elim
      (λ (same : e.0 ≡ k). absurd (ne (sym e.2 ∙ ap (λ i. (step_at arcs i).to) same)))
      (λ other. (e.0, omega (arith, e.1), e.2)) (cases_eq e.0 k)

  pub narrow : (bit : ℕ) → bit ≢ to → IsBegun IsFirst arcs (k + 1) bit → IsBegun IsFirst arcs k bit
  narrow bit ne b = ⊎_elim (λ first. inl first) (λ e. inr (narrow_entered bit ne e)) b

  pub more_over : (bit : ℕ) → IsOver arcs lasts k bit → IsOver arcs lasts (k + 1) bit
  more_over bit o = (o.0, omega (arith, o.1), o.2, o.3)

  -- the bit that step k leaves isn't over before it
  pub never_over : IsOver arcs lasts k from → ⊥
  never_over o = (are_lasts.each o.0 (omega (arith, o.1))).0 o.2 k o.1 low (sym o.3)

  -- the bit that step k enters, as it gets a place
  module _ (old new : Places) (place : ℕ) (h : ArePlaces IsFirst arcs lasts k old) (f : AreFree arcs lasts k old) (inside : to < length old.of_bits.items)
      (g : IsEntry old new to place) (no_first : IsFirst to → ⊥) where
    own : place_at new.of_bits.items to ≡ place
    own = entry_own old new to place inside g

    other : (bit : ℕ) → bit ≢ to → place_at new.of_bits.items bit ≡ place_at old.of_bits.items bit
    other = entry_other old new to place inside g

    ArePlaces-had : place_at old.of_bits.items to ≢ 0 → ArePlaces IsFirst arcs lasts (k + 1) old
    ArePlaces-had some = record {
      below = h.below;
      begun = λ bit has. widen bit (h.begun bit has);
      placed = λ bit b. ⊎_elim (λ (e : bit ≡ to) none. some (ap (place_at old.of_bits.items) (sym e) ∙ none)) (λ ne. h.placed bit (narrow bit ne b)) (cases_eq bit to);
      shared = h.shared;
    }

    module _ (none : place_at old.of_bits.items to ≡ 0) (given : IsGiven old new place) where
      given_some : place ≢ 0
      given_some z = ⊎_elim (λ next. omega (arith, next.0))
          (λ back. f.some (length new.free.items) (omega (arith, end_count old.free.items new.free.items place back.1)) (end_is old.free.items new.free.items place back.1 ∙ z)) given

      -- the bits that had the place are over
      unused : (bit : ℕ) → place_at old.of_bits.items bit ≡ place → IsOver arcs lasts k bit
      unused bit same = ⊎_elim (λ next. absurd (omega (arith, h.below bit, next.0)))
          (λ back. f.over (length new.free.items) bit (omega (arith, end_count old.free.items new.free.items place back.1)) (same ∙ sym (end_is old.free.items new.free.items place back.1))) given

      given_below : place ≤ new.given
      given_below = ⊎_elim (λ next. omega (arith, next.0, next.1))
          (λ back. omega (arith, back.0, f.below (length new.free.items) (omega (arith, end_count old.free.items new.free.items place back.1)), end_is old.free.items new.free.items place back.1)) given

      given_grows : old.given ≤ new.given
      given_grows = ⊎_elim (λ next. omega (arith, next.1)) (λ back. omega (arith, back.0)) given

      -- what is still free was free
      still_free : (i : ℕ) → i < length new.free.items → (i < length old.free.items) × (number_at new.free.items i ≡ number_at old.free.items i)
      still_free i below_i = ⊎_elim
          (λ next. (omega (arith, ap (λ (xs : List ℕ). length xs) next.2), ap (λ xs. number_at xs i) next.2))
          (λ back. (omega (arith, end_count old.free.items new.free.items place back.1), sym (front_is old.free.items new.free.items place back.1 i below_i))) given

      still_apart : (i : ℕ) → i < length new.free.items → number_at new.free.items i ≢ place
      still_apart i below_i same = ⊎_elim
          (λ next. let s = still_free i below_i in omega (arith, f.below i s.0, s.1, next.0))
          (λ back. f.apart i (length new.free.items) below_i (omega (arith, end_count old.free.items new.free.items place back.1))
          (front_is old.free.items new.free.items place back.1 i below_i ∙ same ∙ sym (end_is old.free.items new.free.items place back.1))) given

      fresh : (bit : ℕ) → IsOver arcs lasts k bit → Precedes IsFirst arcs lasts bit to
      fresh bit o = record {
        last = o.0;
        inside = omega (arith, o.1);
        marked = o.2;
        leaves = o.3;
        before = λ j below_j at. ⊎_elim (λ (before_k : j < k). absurd (h.placed to (inr (j, before_k, at)) none)) (λ (after_k : k ≤ j). omega (arith, o.1)) (cases_lt j k);
        entered = no_first;
      }

      at_own : (bit : ℕ) → bit ≡ to → place_at new.of_bits.items bit ≡ place
      at_own bit e = ap (place_at new.of_bits.items) e ∙ own

      ArePlaces-got : ArePlaces IsFirst arcs lasts (k + 1) new
      ArePlaces-got = record {
        below = λ bit. ⊎_elim (λ (e : bit ≡ to). omega (arith, at_own bit e, given_below)) (λ ne. omega (arith, other bit ne, h.below bit, given_grows)) (cases_eq bit to);
        begun = λ bit some. ⊎_elim (λ (e : bit ≡ to). inr (k, omega arith, sym e)) (λ ne. widen bit (h.begun bit (λ z. some (other bit ne ∙ z)))) (cases_eq bit to);
        placed = λ bit b z. ⊎_elim (λ (e : bit ≡ to). given_some (sym (at_own bit e) ∙ z)) (λ ne. h.placed bit (narrow bit ne b) (sym (other bit ne) ∙ z)) (cases_eq bit to);
        shared = λ bit oth ne some same. ⊎_elim
            (λ (e : bit ≡ to).
            let apart : oth ≢ to = λ o. ne (e ∙ sym o) in
            inr (subst (λ x. Precedes IsFirst arcs lasts oth x) (sym e) (fresh oth (unused oth (sym (other oth apart) ∙ sym same ∙ at_own bit e)))))
            (λ nb. ⊎_elim
            (λ (e : oth ≡ to). inl (subst (λ x. Precedes IsFirst arcs lasts bit x) (sym e) (fresh bit (unused bit (sym (other bit nb) ∙ same ∙ at_own oth e)))))
            (λ no. h.shared bit oth ne (λ z. some (other bit nb ∙ z)) (sym (other bit nb) ∙ same ∙ other oth no)) (cases_eq oth to))
            (cases_eq bit to);
      }

      AreFree-got : AreFree arcs lasts k new
      AreFree-got = record {
        some = λ i l z. let s = still_free i l in f.some i s.0 (sym s.1 ∙ z);
        below = λ i l. let s = still_free i l in omega (arith, f.below i s.0, s.1, given_grows);
        apart = λ i j before l same.
            let s = still_free j l in
            let r = still_free i (omega arith) in
            f.apart i j before s.0 (sym r.1 ∙ same ∙ s.1);
        over = λ i bit l same. ⊎_elim
            (λ (e : bit ≡ to). absurd (still_apart i l (sym same ∙ at_own bit e)))
            (λ ne. let s = still_free i l in f.over i bit s.0 (sym (other bit ne) ∙ same ∙ s.1)) (cases_eq bit to);
      }

    pub entered_places : ArePlaces IsFirst arcs lasts (k + 1) new
    entered_places = ⊎_elim (λ had. subst (λ (p : Places). ArePlaces IsFirst arcs lasts (k + 1) p) (sym had.2) (ArePlaces-had (λ z. had.0 (had.1 ∙ z)))) (λ got. ArePlaces-got got.0 got.2) g

    pub entered_free : AreFree arcs lasts k new
    entered_free = ⊎_elim (λ had. subst (λ (p : Places). AreFree arcs lasts k p) (sym had.2) f) (λ got. AreFree-got got.0 got.2) g

    pub entered_some : place ≢ 0
    entered_some z = ⊎_elim (λ had. had.0 z) (λ got. given_some got.0 got.2 z) g

  -- the bit that step k leaves, as it gives its place back
  module _ (old new : Places) (is_last : Bool) (h : ArePlaces IsFirst arcs lasts (k + 1) old) (f : AreFree arcs lasts k old) (items : new.of_bits.items ≡ old.of_bits.items) (given : new.given ≡ old.given)
      (g : IsExit old new from is_last) (marked : IsTrue is_last → IsMarked lasts k) where
    module _ (last : IsTrue is_last) (some : place_at old.of_bits.items from ≢ 0) where
      before_from : (bit : ℕ) → Precedes IsFirst arcs lasts bit from → IsOver arcs lasts (k + 1) bit
      before_from bit p = ⊎_elim (λ first. absurd (p.entered first))
          (λ e. let b = p.before e.0 (omega (arith, e.1)) e.2 in (p.last, omega (arith, b, e.1), p.marked, p.leaves)) (h.begun from some)

      after_from : (bit : ℕ) → place_at old.of_bits.items bit ≢ 0 → Precedes IsFirst arcs lasts from bit → ⊥
      after_from bit has p = ⊎_elim (λ first. p.entered first)
          (λ e. let b = p.before e.0 (omega (arith, e.1)) e.2 in never_over (p.last, omega (arith, b, e.1), p.marked, p.leaves)) (h.begun bit has)

      -- the bits that had the place are over
      left_over : (bit : ℕ) → place_at old.of_bits.items bit ≡ place_at old.of_bits.items from → IsOver arcs lasts (k + 1) bit
      left_over bit same = ⊎_elim
          (λ (e : bit ≡ from). (k, omega arith, marked last, sym e))
          (λ ne.
          let has : place_at old.of_bits.items bit ≢ 0 = λ z. some (sym same ∙ z) in
          ⊎_elim (λ p. before_from bit p) (λ p. absurd (after_from bit has p)) (h.shared bit from ne has same))
          (cases_eq bit from)

      module _ (free : new.free.items ≡ old.free.items ++ place_at old.of_bits.items from ∷ []) where
        place_of : (i : ℕ) → i < length new.free.items →
            ((i < length old.free.items) × (number_at new.free.items i ≡ number_at old.free.items i)) ⊎ ((i ≡ length old.free.items) × (number_at new.free.items i ≡ place_at old.of_bits.items from))
        place_of i l = ⊎_elim
            (λ (before : i < length old.free.items). inl (before, front_is new.free.items old.free.items (place_at old.of_bits.items from) free i before))
            (λ (after : length old.free.items ≤ i).
            let e : i ≡ length old.free.items = omega (arith, end_count new.free.items old.free.items (place_at old.of_bits.items from) free) in
            inr (e, ap (number_at new.free.items) e ∙ end_is new.free.items old.free.items (place_at old.of_bits.items from) free))
            (cases_lt i (length old.free.items))

        AreFree-back : AreFree arcs lasts (k + 1) new
        AreFree-back = record {
          some = λ i l z. ⊎_elim (λ o. f.some i o.0 (sym o.1 ∙ z)) (λ n. some (sym n.1 ∙ z)) (place_of i l);
          below = λ i l. ⊎_elim (λ o. omega (arith, o.1, f.below i o.0)) (λ n. omega (arith, n.1, h.below from)) (place_of i l);
          apart = λ i j before l same. ⊎_elim
              (λ o. f.apart i j before o.0 (sym (front_is new.free.items old.free.items (place_at old.of_bits.items from) free i (omega (arith, o.0))) ∙ same ∙ o.1))
              (λ n.
              let low_i : i < length old.free.items = omega (arith, n.0) in
              never_over (f.over i from low_i (sym n.1 ∙ sym same ∙ front_is new.free.items old.free.items (place_at old.of_bits.items from) free i low_i)))
              (place_of j l);
          over = λ i bit l same. ⊎_elim
              (λ o. more_over bit (f.over i bit o.0 (ap (λ xs. place_at xs bit) (sym items) ∙ same ∙ o.1)))
              (λ n. left_over bit (ap (λ xs. place_at xs bit) (sym items) ∙ same ∙ n.1)) (place_of i l);
        }

    AreFree-kept : new.free.items ≡ old.free.items → AreFree arcs lasts (k + 1) new
    AreFree-kept free = record {
      some = λ i l z. f.some i (omega (arith, ap (λ (xs : List ℕ). length xs) free)) (ap (λ xs. number_at xs i) (sym free) ∙ z);
      below = λ i l. omega (arith, f.below i (omega (arith, ap (λ (xs : List ℕ). length xs) free)), ap (λ xs. number_at xs i) free);
      apart = λ i j before l same. f.apart i j before (omega (arith, ap (λ (xs : List ℕ). length xs) free)) (ap (λ xs. number_at xs i) (sym free) ∙ same ∙ ap (λ xs. number_at xs j) free);
      over = λ i bit l same. more_over bit (f.over i bit (omega (arith, ap (λ (xs : List ℕ). length xs) free)) (ap (λ xs. place_at xs bit) (sym items) ∙ same ∙ ap (λ xs. number_at xs i) free));
    }

    pub left_free : AreFree arcs lasts (k + 1) new
    left_free = ⊎_elim (λ back. AreFree-back back.0 back.1 back.2) (λ kept. AreFree-kept kept.1) g

    pub left_places : ArePlaces IsFirst arcs lasts (k + 1) new
    left_places = ArePlaces-same IsFirst arcs lasts (k + 1) old new items given h
