-- Judgements of schedules.
use Rattle.std.proofs.Common.{◌≡◌, ◌≢◌, ℕ, ℤ, List, [], length, sym, subst}
use Rattle.mintc_timing.specs.declared.clocking.Schedule.{Schedule}
use Rattle.mintc_timing.specs.declared.violation.Violation.{Violation}
use Rattle.mintc_timing.specs.Departures.{AreLate, AreEarly}
use Rattle.mintc_timing.specs.Design.{Timing}
use Rattle.mintc_timing.specs.Violations.{AreViolations}
use Rattle.mintc_report.specs.Answers.{IsPassText, IsFailText, NamePairs}
use Rattle.mintc_report.specs.Laws.{ViolationsNamePairs}
use Rattle.mintc_command_answers.specs.Jobs.{IsJudgement}
use Rattle.mintc_command_answers.specs.declared.status.Status.{Status}
use Rattle.mintc_command_answers.specs.declared.status.Status.TheVariants.{Done, Found}

-- a pass, where there are no violations, and else a fail
pub IsJudgement-pass : (t : Timing) (s : Schedule) (violations : List Violation) (late early : List ℤ) (status : Status) (written text : List ℕ) → violations ≡ [] →
    AreViolations t s violations → AreLate t s late → AreEarly t s early → IsPassText t.flat s late early written → status ≡ Done → text ≡ written → IsJudgement t s status text
IsJudgement-pass t s violations late early status written text none are_all are_late are_early is_text done same =
    let P : List Violation → Type 0 = λ vs. AreViolations t s vs in
    let Q : List ℕ → Type 0 = λ x. IsPassText t.flat s late early x in
    subst (λ (x : Status). IsJudgement t s x text) (sym done) (late, early, subst P none are_all, are_late, are_early, subst Q (sym same) is_text)

pub IsJudgement-fail : (t : Timing) (s : Schedule) (violations shown : List Violation) (status : Status) (written text : List ℕ) → violations ≢ [] → shown ≡ violations →
    AreViolations t s violations → IsFailText t s shown written → status ≡ Found → text ≡ written → IsJudgement t s status text
IsJudgement-fail t s violations shown status written text some same are_all is_text found whole =
    let P : List Violation → Type 0 = λ vs. IsFailText t s vs written in
    let Q : List ℕ → Type 0 = λ x. IsFailText t s violations x in
    subst (λ (x : Status). IsJudgement t s x text) (sym found) (violations, are_all, some, subst Q (sym whole) (subst P same is_text))

-- Violations name pairs wherever they are seen.
pub NamePairs-seen : ViolationsNamePairs → (t : Timing) (s : Schedule) (violations seen : List Violation) → seen ≡ violations → AreViolations t s violations → NamePairs (length t.pairs) seen
NamePairs-seen law t s violations seen same are_all =
    let P : List Violation → Type 0 = λ vs. NamePairs (length t.pairs) vs in
    subst P (sym same) (law t s violations are_all)
