-- What is told of a verdict.
use Rattle.std.proofs.Common.{◌≡◌, ℕ, ℤ, List, [], Bool, true, sym, subst}
use Rattle.std.specs.Bool.{OnFalse, OnTrue}
use Rattle.mintc_timing.specs.Design.{Timing}
use Rattle.mintc_timing.specs.Violations.{AreViolations}
use Rattle.mintc_timing.specs.declared.clocking.Schedule.{Schedule}
use Rattle.mintc_timing.specs.declared.violation.Violation.{Violation}
use Rattle.mintc_certificate.specs.declared.members.Member.{Member}
use Rattle.mintc_certificate.specs.declared.certificate.Certificate.{Certificate}
use Rattle.mintc_certificate.specs.declared.certificate.Certificate.TheVariants.{Least, Never}
use Rattle.mintc_checker.specs.declared.verdict.Verdict.{Verdict}
use Rattle.mintc_checker.specs.declared.verdict.Verdict.TheVariants.{Valid, Invalid}
use Rattle.mintcx_frame.specs.declared.view.View.{View}
use Rattle.mintcx_answers.specs.Answers.{AreOfVerdict, IsScheduleOrVerdict, IsToldVerdict, fails_rule}

-- a rule that fails is told with the violations of the schedule
pub rules_told : (t : Timing) (c : Certificate) (s : Schedule) (ds : List ℤ) (ms : List Member) (v : Verdict) (vs : List Violation) → c ≡ Least s ds ms → fails_rule v ≡ true → AreViolations t s vs →
    AreOfVerdict t c v vs
rules_told t c s ds ms v vs is fails found =
    let P : Bool → Type 0 = λ b. OnTrue b (AreViolations t s vs) × OnFalse b (vs ≡ []) in
    let own : AreOfVerdict t (Least s ds ms) v vs = subst P (sym fails) (found, tt) in
    subst (λ (x : Certificate). AreOfVerdict t x v vs) (sym is) own

-- a certificate that isn't valid, or has no schedule, is told with its verdict
pub told_invalid : (t : Timing) (c : Certificate) (s : Schedule) (ds : List ℤ) (ms : List Member) (design : List ℕ) (view : View) (v : Verdict) (n : ℕ) (text : List ℕ) → c ≡ Least s ds ms → v ≡ Invalid n →
    IsToldVerdict t c design view v text → IsScheduleOrVerdict t c design view v text
told_invalid t c s ds ms design view v n text is fails h =
    let told : IsToldVerdict t (Least s ds ms) design view (Invalid n) text =
    subst (λ (y : Verdict). IsToldVerdict t (Least s ds ms) design view y text) fails (subst (λ (x : Certificate). IsToldVerdict t x design view v text) is h) in
    subst (λ (x : Certificate). IsScheduleOrVerdict t x design view v text) (sym is) (subst (λ (y : Verdict). IsScheduleOrVerdict t (Least s ds ms) design view y text) (sym fails) told)

pub told_never : (t : Timing) (c : Certificate) (ms : List Member) (design : List ℕ) (view : View) (v : Verdict) (text : List ℕ) → c ≡ Never ms → IsToldVerdict t c design view v text →
    IsScheduleOrVerdict t c design view v text
told_never t c ms design view v text is h =
    let told : IsToldVerdict t (Never ms) design view v text = subst (λ (x : Certificate). IsToldVerdict t x design view v text) is h in
    subst (λ (x : Certificate). IsScheduleOrVerdict t x design view v text) (sym is) told
