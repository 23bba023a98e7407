-- Places of bits as they are given, and steps from place to place.
use Rattle.std.proofs.Common.{◌≡◌, ◌≢◌, ℕ, ◌<◌, ◌≤◌, ◌+◌, ◌*◌, List, [], ◌∷◌, length, get_or, set, replicate, length-set, get_or-set_same, get_or-set_other, arith, ap, refl, ◌∙◌, sym, ⊎_elim, subst}
use Rattle.std.proofs.lemmas.Bool.{cases_eq}
use Rattle.std.proofs.lemmas.List.{get_or-map, get_or-replicate, get_or_past, length-replicate, length-append}
use Rattle.std.proofs.Math.ListN.{length-map}
use Rattle.mintc_timing.specs.declared.parts.TimingArc.{TimingArc}
use Rattle.mintc_timing.specs.Design.{Design, no_arc}
use Rattle.mintc_timing.specs.Limits.{IsDesign}
use Rattle.mintc_timing.specs.Order.{IsOrder}
use Rattle.mintc_timing.specs.Paths.{arc_at, output_of}
use Rattle.mintc_timing.proofs.SharedOrdered.{inside}
use Rattle.mintc_checker.specs.declared.course.Places.{Places}
use Rattle.mintc_checker.specs.declared.course.Step.{Step}
use Rattle.mintc_checker.specs.Course.{bare, moved, place_at, AreApart, AreOrdered, AreSteps, IsBetween, IsEntry, IsGiven, IsOutput, IsStep, no_step, step_at}

pub none_placed : (count : ℕ) (places : List ℕ) → places ≡ replicate count 0 → (bit : ℕ) → place_at places bit ≡ 0
none_placed count places same bit = grind (arith, same, get_or-replicate {A = ℕ} count bit 0 0, get_or_past {X = ℕ} (replicate count 0) bit 0, length-replicate {A = ℕ} count 0)

pub AreApart-none : (places : Places) → ((bit : ℕ) → place_at places.of_bits.items bit ≡ 0) → length places.free.items ≡ 0 → AreApart places
AreApart-none places none free = record {
  below = λ bit. omega (arith, none bit);
  apart = λ bit other ne some same. some (none bit);
  none = free;
}

-- What a bit that is entered has, and what the others keep.
module _ (old new : Places) (bit place : ℕ) (inside_old : bit < length old.of_bits.items) (g : IsEntry old new bit place) where
  pub entry_count : length new.of_bits.items ≡ length old.of_bits.items
  entry_count = ⊎_elim (λ had. ap (λ (p : Places). length p.of_bits.items) had.2) (λ got. ap (λ (xs : List ℕ). length xs) got.1 ∙ length-set old.of_bits.items bit place) g

  pub entry_given : new.given ≤ old.given + 1
  entry_given = ⊎_elim (λ had. omega (arith, ap (λ (p : Places). p.given) had.2)) (λ got. ⊎_elim (λ next. omega (arith, next.1)) (λ back. omega (arith, back.0)) got.2) g

  pub entry_own : place_at new.of_bits.items bit ≡ place
  entry_own = ⊎_elim (λ had. ap (λ (p : Places). place_at p.of_bits.items bit) had.2 ∙ sym had.1)
      (λ got. ap (λ xs. place_at xs bit) got.1 ∙ get_or-set_same old.of_bits.items bit place 0 inside_old) g

  pub entry_other : (other : ℕ) → other ≢ bit → place_at new.of_bits.items other ≡ place_at old.of_bits.items other
  entry_other other ne = ⊎_elim (λ had. ap (λ (p : Places). place_at p.of_bits.items other) had.2)
      (λ got. ap (λ xs. place_at xs other) got.1 ∙ get_or-set_other old.of_bits.items bit other place 0 ne) g

  -- what has a place keeps it
  pub entry_kept : (other : ℕ) → place_at old.of_bits.items other ≢ 0 → place_at new.of_bits.items other ≡ place_at old.of_bits.items other
  entry_kept other some = ⊎_elim
      (λ (e : other ≡ bit). ⊎_elim (λ had. ap (λ (p : Places). place_at p.of_bits.items other) had.2) (λ got. absurd (some (ap (place_at old.of_bits.items) e ∙ got.0))) g)
      (λ ne. entry_other other ne) (cases_eq other bit)

-- where no place was given back, the next one is given
given_next : (old new : Places) (place : ℕ) → AreApart old → IsGiven old new place → (place ≡ old.given + 1) × (new.given ≡ old.given + 1) × (length new.free.items ≡ 0)
given_next old new place h g = ⊎_elim (λ next. (next.0, next.1, ap (λ (xs : List ℕ). length xs) next.2 ∙ h.none))
    (λ back. absurd (omega (arith, h.none, ap (λ (xs : List ℕ). length xs) back.1, length-append new.free.items (place ∷ [])))) g

module _ (old new : Places) (bit place : ℕ) (h : AreApart old) (inside_old : bit < length old.of_bits.items) (g : IsEntry old new bit place) where
  own : place_at new.of_bits.items bit ≡ place
  own = entry_own old new bit place inside_old g

  other : (b : ℕ) → b ≢ bit → place_at new.of_bits.items b ≡ place_at old.of_bits.items b
  other = entry_other old new bit place inside_old g

  AreApart-next : (place ≡ old.given + 1) × (new.given ≡ old.given + 1) × (length new.free.items ≡ 0) → AreApart new
  AreApart-next next = record {
    below = λ b. ⊎_elim
        (λ (e : b ≡ bit). let at : place_at new.of_bits.items b ≡ place = ap (place_at new.of_bits.items) e ∙ own in omega (arith, next.0, next.1))
        (λ ne. omega (arith, h.below b, other b ne, next.1)) (cases_eq b bit);
    apart = λ b o ne some same. ⊎_elim
        (λ (e : b ≡ bit).
        let at : place_at new.of_bits.items b ≡ place = ap (place_at new.of_bits.items) e ∙ own in
        omega (arith, h.below o, other o (λ f. ne (e ∙ sym f)), next.0))
        (λ nb. ⊎_elim
        (λ (e : o ≡ bit).
        let at : place_at new.of_bits.items o ≡ place = ap (place_at new.of_bits.items) e ∙ own in
        omega (arith, h.below b, other b nb, next.0))
        (λ no. h.apart b o ne (λ z. some (other b nb ∙ z)) (sym (other b nb) ∙ same ∙ other o no)) (cases_eq o bit))
        (cases_eq b bit);
    none = next.2;
  }

  pub AreApart-entered : AreApart new
  AreApart-entered = ⊎_elim (λ had. subst (λ (p : Places). AreApart p) (sym had.2) h) (λ got. AreApart-next (given_next old new place h got.2)) g

  entered_some : place_at new.of_bits.items bit ≢ 0
  entered_some none = ⊎_elim (λ had. had.0 (sym own ∙ none)) (λ got. let next = given_next old new place h got.2 in omega (arith, next.0, own)) g

-- one more output has a place
module _ (old new : Places) (number place : ℕ) (h : AreApart old) (inside_old : output_of number < length old.of_bits.items) (g : IsEntry old new (output_of number) place) where
  pub outputs_more : ((bit : ℕ) → IsOutput number bit → place_at old.of_bits.items bit ≢ 0) → (bit : ℕ) → IsOutput (number + 1) bit → place_at new.of_bits.items bit ≢ 0
  outputs_more before bit o none = ⊎_elim
      (λ (e : o.0 ≡ number). entered_some old new (output_of number) place h inside_old g (ap (place_at new.of_bits.items) (ap output_of (sym e) ∙ sym o.2) ∙ none))
      (λ ne.
      let low : o.0 < number = omega (arith, o.1) in
      let apart : bit ≢ output_of number = omega (arith, o.2) in
      before bit (o.0, low, o.2) (sym (entry_other old new (output_of number) place inside_old g bit apart) ∙ none))
      (cases_eq o.0 number)

  pub others_more : ((bit : ℕ) → place_at old.of_bits.items bit ≢ 0 → IsOutput number bit) → (bit : ℕ) → place_at new.of_bits.items bit ≢ 0 → IsOutput (number + 1) bit
  others_more before bit some = ⊎_elim
      (λ (e : bit ≡ output_of number). (number, omega arith, e))
      (λ ne. let o = before bit (λ none. some (entry_other old new (output_of number) place inside_old g bit ne ∙ none)) in (o.0, omega (arith, o.1), o.2))
      (cases_eq bit (output_of number))

-- one more step
module _ (bits : ℕ) (arcs : List Step) (ordered : AreOrdered bits arcs) (k : ℕ) (low : k < length arcs) (old new : Places) (place : ℕ)
    (inside_old : (step_at arcs k).to < length old.of_bits.items) (g : IsEntry old new (step_at arcs k).to place) (steps : List Step) (step : Step)
    (h : AreSteps arcs k old.of_bits.items steps) (is : IsStep new.of_bits.items (step_at arcs k) step) where
  kept : (i : ℕ) → i < k → IsStep new.of_bits.items (step_at arcs i) (step_at steps i)
  kept i before =
      let s = h.each i before in
      let apart : (step_at arcs i).from ≢ (step_at arcs k).to = λ e. let after = ordered.ordered k i low (omega (arith, low)) (sym e) in omega (arith, after) in
      record {
        from = s.from ∙ sym (entry_other old new (step_at arcs k).to place inside_old g (step_at arcs i).from apart);
        to = s.to ∙ sym (entry_kept old new (step_at arcs k).to place inside_old g (step_at arcs i).to (λ z. s.ends (s.to ∙ z)));
        max = s.max;
        ends = s.ends;
      }

  step_new : step_at (set steps k step) k ≡ step
  step_new = get_or-set_same steps k step no_step (omega (arith, h.count))

  step_old : (i : ℕ) → i ≢ k → step_at (set steps k step) i ≡ step_at steps i
  step_old i ne = get_or-set_other steps k i step no_step ne

  pub AreSteps-more : AreSteps arcs (k + 1) new.of_bits.items (set steps k step)
  AreSteps-more = record {
    count = length-set steps k step ∙ h.count;
    each = λ i below. ⊎_elim
        (λ (e : i ≡ k). rw (e, step_new) is)
        (λ ne. let before : i < k = omega arith in rw (step_old i ne) (kept i before))
        (cases_eq i k);
    rest = λ i past. let ne : i ≢ k = omega arith in step_old i ne ∙ h.rest i (omega arith);
  }

-- no steps yet
pub AreSteps-none : (arcs : List Step) (places : List ℕ) → AreSteps arcs 0 places arcs
AreSteps-none arcs places = record { count = refl; each = λ i low. absurd (omega arith); rest = λ i past. refl }

pub length-moved : (arcs : List TimingArc) (order : List ℕ) → length (moved arcs order) ≡ length order
length-moved arcs order = length-map order (λ number. bare (arc_at arcs number))

pub moved_at : (arcs : List TimingArc) (order : List ℕ) (i : ℕ) → i < length order → step_at (moved arcs order) i ≡ bare (arc_at arcs (get_or order i 0))
moved_at arcs order i low = get_or-map (λ number. bare (arc_at arcs number)) order i 0 no_step low

-- the arcs of a design, in their order
module _ (design : Design) (limits : IsDesign design) (order : List ℕ) (is_order : IsOrder design.arcs order) where
  below_order : (i : ℕ) → i < length (moved design.arcs order) → i < length order
  below_order i low = omega (arith, length-moved design.arcs order)

  pub moved_between : (bits : ℕ) → bits ≡ 2 * length design.elements + length design.inner → (i : ℕ) → i < length (moved design.arcs order) → IsBetween bits (step_at (moved design.arcs order) i)
  moved_between bits count i low =
      let below = below_order i low in
      let arc = limits.each_arc (get_or order i 0) no_arc (inside design.arcs order is_order i below) in
      rw (moved_at design.arcs order i below, count) (record { from = arc.from; to = arc.to; max = arc.max })

  pub moved_ordered : (bits : ℕ) → bits ≡ 2 * length design.elements + length design.inner → AreOrdered bits (moved design.arcs order)
  moved_ordered bits count = record {
    inside = moved_between bits count;
    ordered = λ i j low_i low_j met.
        let a = below_order i low_i in
        let b = below_order j low_j in
        is_order.ordered i j a b (ap (λ (s : Step). s.to) (sym (moved_at design.arcs order i a)) ∙ met ∙ ap (λ (s : Step). s.from) (moved_at design.arcs order j b));
  }

  -- no arc enters an output
  pub moved_enters : (i : ℕ) → i < length (moved design.arcs order) → IsOutput (length design.elements) (step_at (moved design.arcs order) i).to → ⊥
  moved_enters i low o =
      let below = below_order i low in
      let arc = limits.each_arc (get_or order i 0) no_arc (inside design.arcs order is_order i below) in
      arc.enters o.0 o.1 (ap (λ (s : Step). s.to) (sym (moved_at design.arcs order i below)) ∙ o.2)

  -- no arc leaves an input
  pub moved_leaves : (i l : ℕ) → i < length (moved design.arcs order) → l < length design.elements → (step_at (moved design.arcs order) i).from ≢ 2 * l
  moved_leaves i l low inside_l e =
      let below = below_order i low in
      let arc = limits.each_arc (get_or order i 0) no_arc (inside design.arcs order is_order i below) in
      arc.leaves l inside_l (ap (λ (s : Step). s.from) (sym (moved_at design.arcs order i below)) ∙ e)
