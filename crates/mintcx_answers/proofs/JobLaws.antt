-- Judgements and optima for people.
use Rattle.std.proofs.Common.{◌≡◌, ◌≢◌, ℕ, ℤ, List, [], length, Bool, true, arith, sym, subst, inl, inr, Result, Ok, Err, IfOk}
use Rattle.std.specs.Bool.{◌==◌}
use Rattle.std.proofs.lemmas.List.{nil_from_length}
use Rattle.std.proofs.lemmas.Bool.Decides.{nat_tests}
use Rattle.mintc_timing.specs.Departures.{AreEarly, AreExact, AreLate}
use Rattle.mintc_timing.specs.Design.{Timing}
use Rattle.mintc_timing.specs.Violations.{AreViolations}
use Rattle.mintc_timing.specs.declared.clocking.Schedule.{Schedule}
use Rattle.mintc_timing.specs.declared.violation.Violation.{Violation}
use Rattle.mintcx_frame.specs.declared.view.View.{View}
use Rattle.mintcx_judgements.specs.Fails.{IsFailText}
use Rattle.mintcx_translation.specs.declared.calls.Aspect.{Aspect}
use Rattle.mintcx_answers.specs.Answers.{IsFail, IsPass, IsTextOfPass}

-- a fail whose departures settle
pub fail_settled : {E : Type 0} (r : Result (List ℕ) E) (t : Timing) (s : Schedule) (view : View) (violations : List Violation) (late early : List ℤ) → AreViolations t s violations → violations ≢ [] →
    AreLate t s late → AreEarly t s early → IfOk r (IsFailText t s late early view violations) → IfOk r (IsFail t s view)
fail_settled (Err e) t s view violations late early are some is_late is_early h = tt
fail_settled (Ok text) t s view violations late early are some is_late is_early h = (violations, are, some, (late, early, inl (is_late, is_early), h))

-- a fail whose departures don't
pub fail_unsettled : {E : Type 0} (r : Result (List ℕ) E) (t : Timing) (s : Schedule) (view : View) (violations : List Violation) (late early : List ℤ) → AreViolations t s violations → violations ≢ [] →
    ((d : List ℤ) → AreExact t s d → ⊥) → late ≡ [] → early ≡ [] → IfOk r (IsFailText t s late early view violations) → IfOk r (IsFail t s view)
fail_unsettled (Err e) t s view violations late early are some none no_late no_early h = tt
fail_unsettled (Ok text) t s view violations late early are some none no_late no_early h = (violations, are, some, (late, early, inr (none, (no_late, no_early)), h))

-- a pass
pub is_pass : (t : Timing) (s : Schedule) (told : Aspect) (view : View) (violations : List Violation) (late early : List ℤ) (text : List ℕ) → violations ≡ [] → AreViolations t s violations →
    AreLate t s late → AreEarly t s early → IsTextOfPass t s told late early view text → IsPass t s told view text
is_pass t s told view violations late early text none are is_late is_early h = (subst (λ (x : List Violation). AreViolations t s x) none are, (late, early, is_late, is_early, h))

-- a list that is empty by its test
pub is_none : (vs : List Violation) (count : ℕ) (empty : Bool) → count ≡ length vs → empty ≡ (count == 0) → empty ≡ true → vs ≡ []
is_none vs count empty same is holds =
    let none : length vs ≡ 0 = grind (arith, nat_tests) in
    nil_from_length vs none
