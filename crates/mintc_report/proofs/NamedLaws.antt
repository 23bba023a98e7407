-- Violations name pairs that the design has.
use Rattle.std.proofs.Common.{◌<◌, ◌-◌, ℕ, ℤ, pos, inl, inr, List, [], ◌∷◌, ◌++◌, length, map, Option, Some, None}
use Rattle.std.specs.Prelude.{filter, filter_map, flat_map, option_map, int_lt, All}
use Rattle.std.specs.List.{range_with_len, enumerate_from, cons_option}
use Rattle.std.specs.Option.{IfSome}
use Rattle.std.proofs.lemmas.List.Elements.{All-nil, All-cons, All-append, All-push, All-map, All-filter, All-same}
use Rattle.mintc_timing.specs.declared.clocking.Schedule.{Schedule}
use Rattle.mintc_timing.specs.declared.violation.Broken.TheVariants as broken
use Rattle.mintc_timing.specs.declared.violation.Violation.{Violation}
use Rattle.mintc_timing.specs.Clocking.{feeds_of}
use Rattle.mintc_timing.specs.Design.{Timing, phase_count}
use Rattle.mintc_timing.specs.Violations.{check, phases_of, elements_of, cycle_checks, order_checks, span_checks, width_checks, apart_checks, bound_checks, clock_checks, setup_amount, hold_amount, setup_checks, hold_checks, failed, EndInLoop, AreSettled}
use Rattle.mintc_report.specs.Answers.{ring_of, NamePairs}
use Rattle.mintc_report.specs.Laws.{ViolationsNamePairs}

-- The pairs that a violation names are among so many.
abbrev NamesPairs : ℕ → Violation → Type 0
NamesPairs count v = All (λ n. n < count) (ring_of v.broken)

-- what holds of each item that a list is made of
All-each : {X : Type 0} (P : X → Type 0) (xs : List X) → ((x : X) → P x) → All P xs
All-each P [] each = All-nil P
All-each P (x ∷ xs) each = All-cons P x xs (each x) (All-each P xs each)

All-flat_map : {X A : Type 0} (P : A → Type 0) (f : X → List A) (xs : List X) → ((x : X) → All P (f x)) → All P (flat_map f xs)
All-flat_map P f [] each = All-nil P
All-flat_map P f (x ∷ xs) each = All-append P (f x) (flat_map f xs) (each x) (All-flat_map P f xs each)

All-cons_option : {A : Type 0} (P : A → Type 0) (o : Option A) (xs : List A) → IfSome o P → All P xs → All P (cons_option o xs)
All-cons_option P None xs h all = all
All-cons_option P (Some x) xs h all = All-cons P x xs h all

All-filter_map : {X A : Type 0} (P : A → Type 0) (f : X → Option A) (xs : List X) → ((x : X) → IfSome (f x) P) → All P (filter_map f xs)
All-filter_map P f [] each = All-nil P
All-filter_map P f (x ∷ xs) each = All-cons_option P (f x) (filter_map f xs) (each x) (All-filter_map P f xs each)

IfSome-option_map : {X A : Type 0} (P : A → Type 0) (f : X → A) (o : Option X) → ((x : X) → P (f x)) → IfSome (option_map f o) P
IfSome-option_map P f None each = tt
IfSome-option_map P f (Some x) each = each x

checks_named : {X : Type 0} (count : ℕ) (f : X → Violation) (xs : List X) → ((x : X) → NamesPairs count (f x)) → All (NamesPairs count) (map f xs)
checks_named count f xs each = All-map (NamesPairs count) f xs (All-each (λ x. NamesPairs count (f x)) xs each)

aparts_named : (count : ℕ) (t : Timing) (s : Schedule) → All (NamesPairs count) (apart_checks t s)
aparts_named count t s =
    All-flat_map (NamesPairs count) _ (phases_of t.flat) (λ i. checks_named count _ (filter (feeds_of t i) (phases_of t.flat)) (λ j. All-nil (λ n. n < count)))

clock_named : (count : ℕ) (t : Timing) (s : Schedule) → All (NamesPairs count) (clock_checks t s)
clock_named count t s =
    let none : All (λ n. n < count) [] = All-nil (λ n. n < count) in
    let cycles : All (NamesPairs count) (cycle_checks t.flat s) = checks_named count _ (phases_of t.flat) (λ p. none) in
    let orders : All (NamesPairs count) (order_checks t.flat s) = checks_named count _ (range_with_len 1 (phase_count t.flat - 1)) (λ p. none) in
    let spans : All (NamesPairs count) (span_checks t.flat s) = checks_named count _ (phases_of t.flat) (λ p. none) in
    let widths : All (NamesPairs count) (width_checks t.flat s) = checks_named count _ (phases_of t.flat) (λ p. none) in
    let bounds : All (NamesPairs count) (bound_checks t.flat s) = checks_named count _ (enumerate_from 0 t.flat.bounds) (λ b. none) in
    let All-both = All-append (NamesPairs count) in
    All-both _ _ (All-both _ _ (All-both _ _ (All-both _ _ (All-both _ _ cycles orders) spans) widths) (aparts_named count t s)) bounds

setups_named : (count : ℕ) (t : Timing) (s : Schedule) (late : List ℤ) → All (NamesPairs count) (setup_checks t s late)
setups_named count t s late =
    All-filter_map (NamesPairs count) _ (elements_of t.flat)
    (λ l. IfSome-option_map (NamesPairs count) (check (broken.Setup l)) (setup_amount t s late l) (λ x. All-nil (λ n. n < count)))

holds_named : (count : ℕ) (t : Timing) (s : Schedule) (early : List ℤ) → All (NamesPairs count) (hold_checks t s early)
holds_named count t s early =
    All-filter_map (NamesPairs count) _ (elements_of t.flat)
    (λ l. IfSome-option_map (NamesPairs count) (check (broken.Hold l)) (hold_amount t s early l) (λ x. All-nil (λ n. n < count)))

failed_named : (count : ℕ) (vs : List Violation) → All (NamesPairs count) vs → All (NamesPairs count) (failed vs)
failed_named count vs all = All-filter (λ v. int_lt (pos 0) v.amount) (NamesPairs count) vs all

looping_named : (t : Timing) (s : Schedule) (vs : List Violation) → EndInLoop t s vs → NamePairs (length t.pairs) vs
looping_named t s vs (loop, amount, has, whole) =
    let count = length t.pairs in
    All-same (NamesPairs count) vs (failed (clock_checks t s) ++ check (broken.Loop loop) amount ∷ []) whole
    (All-push (NamesPairs count) (failed (clock_checks t s)) (check (broken.Loop loop) amount) (failed_named count (clock_checks t s) (clock_named count t s)) has.is_loop.exist)

settled_named : (t : Timing) (s : Schedule) (vs : List Violation) → AreSettled t s vs → NamePairs (length t.pairs) vs
settled_named t s vs (no_loop, (late, early, are_late, are_early, whole)) =
    let count = length t.pairs in
    let P : Violation → Type 0 = NamesPairs count in
    All-same P vs (failed (clock_checks t s ++ setup_checks t s late ++ hold_checks t s early)) whole
    (failed_named count (clock_checks t s ++ setup_checks t s late ++ hold_checks t s early)
    (All-append P (clock_checks t s ++ setup_checks t s late) (hold_checks t s early)
    (All-append P (clock_checks t s) (setup_checks t s late) (clock_named count t s) (setups_named count t s late)) (holds_named count t s early)))

pub violations_name_pairs_lem : ViolationsNamePairs
violations_name_pairs_lem t s vs h = elim h [ inl looping ↦ looping_named t s vs looping | inr settled ↦ settled_named t s vs settled ]
