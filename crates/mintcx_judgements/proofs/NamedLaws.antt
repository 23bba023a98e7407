-- Violations are of the design's own parts.
use Rattle.std.proofs.Common.{◌≡◌, ◌<◌, ◌≤◌, ◌+◌, ◌-◌, ℕ, zero, suc, ℤ, pos, ◌-ℤ◌, ◌*ℤ◌, inl, inr, List, [], ◌∷◌, ◌++◌, length, map, Option, Some, None, arith}
use Rattle.std.specs.Prelude.{filter, filter_map, flat_map, option_map, int_lt, All}
use Rattle.std.specs.List.{range_with_len, enumerate_from, cons_option}
use Rattle.std.specs.Option.{IfSome}
use Rattle.std.proofs.lemmas.List.Elements.{All-nil, All-cons, All-append, All-push, All-map, All-filter, All-same, All-tail}
use Rattle.mintc_timing.specs.declared.clocking.Schedule.{Schedule}
use Rattle.mintc_timing.specs.declared.parts.Bound.{Bound}
use Rattle.mintc_timing.specs.declared.violation.Broken.TheVariants as broken
use Rattle.mintc_timing.specs.declared.violation.Violation.{Violation}
use Rattle.mintc_timing.specs.Clocking.{feeds_of, crosses_of, start_of, end_of}
use Rattle.mintc_timing.specs.Design.{Timing, phase_count, element_count}
use Rattle.mintc_timing.specs.Limits.{IsPhase}
use Rattle.mintc_timing.specs.Violations.{check, phases_of, elements_of, cycle_checks, order_checks, span_checks, width_checks, apart_checks, bound_checks, clock_checks, setup_amount, hold_amount, setup_checks, hold_checks, failed, EndInLoop, AreSettled}
use Rattle.mintcx_judgements.proofs.CauseLaws.{All-range}
use Rattle.mintcx_judgements.specs.Named.{IsNamed, AreNamed, ViolationsAreNamed}

abbrev Named : Timing → Violation → Type 0
Named t v = IsNamed t v.broken

All-flat_map : {X A : Type 0} (P : A → Type 0) (f : X → List A) (xs : List X) → All (λ x. All P (f x)) xs → All P (flat_map f xs)
All-flat_map P f [] all = All-nil P
All-flat_map P f (x ∷ xs) all = All-append P (f x) (flat_map f xs) (all 0 x (omega arith)) (All-flat_map P f xs (All-tail (λ y. All P (f y)) x xs all))

All-cons_option : {A : Type 0} (P : A → Type 0) (o : Option A) (xs : List A) → IfSome o P → All P xs → All P (cons_option o xs)
All-cons_option P None xs h all = all
All-cons_option P (Some x) xs h all = All-cons P x xs h all

All-filter_map : {X A : Type 0} (P : A → Type 0) (f : X → Option A) (xs : List X) → All (λ x. IfSome (f x) P) xs → All P (filter_map f xs)
All-filter_map P f [] all = All-nil P
All-filter_map P f (x ∷ xs) all = All-cons_option P (f x) (filter_map f xs) (all 0 x (omega arith)) (All-filter_map P f xs (All-tail (λ y. IfSome (f y) P) x xs all))

IfSome-option_map : {X A : Type 0} (P : A → Type 0) (f : X → A) (o : Option X) → ((x : X) → P (f x)) → IfSome (option_map f o) P
IfSome-option_map P f None each = tt
IfSome-option_map P f (Some x) each = each x

All-numbered : {X : Type 0} (m a : ℕ) (xs : List X) → a + length xs ≤ m → All (λ (b : ℕ × X). b.0 < m) (enumerate_from a xs)
All-numbered m a [] h = All-nil (λ b. b.0 < m)
All-numbered m a (x ∷ xs) h = All-cons (λ b. b.0 < m) (a, x) (enumerate_from (a + 1) xs) (omega arith) (All-numbered m (a + 1) xs (omega arith))

module _ (t : Timing) (s : Schedule) where
  phases_are : (Q : ℕ → Type 0) → ((p : ℕ) → IsPhase (phase_count t.flat) p → Q p) → All Q (phases_of t.flat)
  phases_are Q each = All-range Q 1 (phase_count t.flat) (λ k low high. each k (low, omega arith))

  elements_are : (Q : ℕ → Type 0) → ((l : ℕ) → l < element_count t.flat → Q l) → All Q (elements_of t.flat)
  elements_are Q each = All-range Q 0 (element_count t.flat) (λ k low high. each k (omega arith))

  checks_named : {X : Type 0} (f : X → Violation) (xs : List X) → All (λ x. Named t (f x)) xs → All (Named t) (map f xs)
  checks_named f xs all = All-map (Named t) f xs all

  abbrev apart_at : ℕ → ℕ → Violation
  apart_at i j = check (broken.Apart i j) (end_of s j -ℤ pos (crosses_of j i) *ℤ s.cycle -ℤ start_of s i)

  abbrev fed_by : ℕ → List ℕ
  fed_by i = filter (feeds_of t i) (phases_of t.flat)

  aparts_named : All (Named t) (apart_checks t s)
  aparts_named = All-flat_map (Named t) (λ i. map (apart_at i) (fed_by i)) (phases_of t.flat)
      (phases_are (λ i. All (Named t) (map (apart_at i) (fed_by i))) (λ i first. checks_named (apart_at i) (fed_by i)
      (All-filter (feeds_of t i) (λ j. Named t (apart_at i j)) (phases_of t.flat) (phases_are (λ j. Named t (apart_at i j)) (λ j second. (first, second))))))

  clock_named : All (Named t) (clock_checks t s)
  clock_named =
      let cycles : All (Named t) (cycle_checks t.flat s) = checks_named _ (phases_of t.flat) (phases_are _ (λ p h. h)) in
      let orders : All (Named t) (order_checks t.flat s) = checks_named _ (range_with_len 1 (phase_count t.flat - 1)) (All-range (λ k. (1 ≤ k) × (k < phase_count t.flat)) 1 (phase_count t.flat - 1) (λ k low high. (low, omega arith))) in
      let spans : All (Named t) (span_checks t.flat s) = checks_named _ (phases_of t.flat) (phases_are _ (λ p h. h)) in
      let widths : All (Named t) (width_checks t.flat s) = checks_named _ (phases_of t.flat) (phases_are _ (λ p h. h)) in
      let bounds : All (Named t) (bound_checks t.flat s) = checks_named _ (enumerate_from 0 t.flat.bounds) (All-numbered (length t.flat.bounds) 0 t.flat.bounds (omega arith)) in
      let All-both = All-append (Named t) in
      All-both _ _ (All-both _ _ (All-both _ _ (All-both _ _ (All-both _ _ cycles orders) spans) widths) aparts_named) bounds

  setups_named : (late : List ℤ) → All (Named t) (setup_checks t s late)
  setups_named late = All-filter_map (Named t) _ (elements_of t.flat)
      (elements_are _ (λ l h. IfSome-option_map (Named t) (check (broken.Setup l)) (setup_amount t s late l) (λ x. h)))

  holds_named : (early : List ℤ) → All (Named t) (hold_checks t s early)
  holds_named early = All-filter_map (Named t) _ (elements_of t.flat)
      (elements_are _ (λ l h. IfSome-option_map (Named t) (check (broken.Hold l)) (hold_amount t s early l) (λ x. h)))

  failed_named : (vs : List Violation) → All (Named t) vs → All (Named t) (failed vs)
  failed_named vs all = All-filter (λ v. int_lt (pos 0) v.amount) (Named t) vs all

  looping_named : (vs : List Violation) → EndInLoop t s vs → AreNamed t vs
  looping_named vs (loop, amount, has, whole) =
      All-same (Named t) vs (failed (clock_checks t s) ++ check (broken.Loop loop) amount ∷ []) whole
      (All-push (Named t) (failed (clock_checks t s)) (check (broken.Loop loop) amount) (failed_named (clock_checks t s) clock_named) has.is_loop.exist)

  settled_named : (vs : List Violation) → AreSettled t s vs → AreNamed t vs
  settled_named vs (no_loop, (late, early, are_late, are_early, whole)) =
      let All-both = All-append (Named t) in
      All-same (Named t) vs (failed (clock_checks t s ++ setup_checks t s late ++ hold_checks t s early)) whole
      (failed_named _ (All-both _ _ (All-both _ _ clock_named (setups_named late)) (holds_named early)))

pub violations_are_named_lem : ViolationsAreNamed
violations_are_named_lem t s vs h = elim h [ inl looping ↦ looping_named t s vs looping | inr settled ↦ settled_named t s vs settled ]
