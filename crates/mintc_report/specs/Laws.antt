-- What the definitions of answers say.
use Rattle.std.specs.Prelude.{◌≡◌, ℕ, ℤ, pos, ◌≤ℤ◌, List, length}
use Rattle.mintc_timing.specs.declared.clocking.Schedule.{Schedule}
use Rattle.mintc_timing.specs.declared.violation.Violation.{Violation}
use Rattle.mintc_timing.specs.Design.{Timing}
use Rattle.mintc_timing.specs.Violations.{AreViolations}
use Rattle.mintc_certificate.specs.declared.certificate.Certificate.{Certificate}
use Rattle.mintc_certificate.specs.declared.certificate.Certificate.TheVariants.{Least, Never}
use Rattle.mintc_checker.specs.declared.verdict.Verdict.{Verdict}
use Rattle.mintc_checker.specs.Verdicts.{IsVerdict}
use Rattle.mintc_report.specs.Answers.{IsPassText, IsFailText, NamePairs}
use Rattle.mintc_report.specs.Reports.{verdict_text_of, IsReportText}
use Rattle.mintc_report.specs.Summaries.{IsSummaryText}

-- The denominator of a certificate's schedule is at least 1.
abbrev pub HasDenominator : Certificate → Type 0
HasDenominator (Least s d chain) = pos 1 ≤ℤ s.den
HasDenominator (Never chain) = Unit {0}

-- Departures have one text of a pass, violations one text of a fail, and a certificate one text of a report and one of
-- a summary. Verdicts with one text are equal.
pub record AnswersAreDetermined : Type 0 where
  pub pass : (t : Timing) (s : Schedule) (late early : List ℤ) (text other : List ℕ) → pos 1 ≤ℤ s.den →
      IsPassText t.flat s late early text → IsPassText t.flat s late early other → text ≡ other
  pub fail : (t : Timing) (s : Schedule) (violations : List Violation) (text other : List ℕ) → pos 1 ≤ℤ s.den →
      IsFailText t s violations text → IsFailText t s violations other → text ≡ other
  pub report : (t : Timing) (certificate : Certificate) (text other : List ℕ) → HasDenominator certificate →
      IsReportText t.flat certificate text → IsReportText t.flat certificate other → text ≡ other
  pub summary : (number : ℕ) (t : Timing) (certificate : Certificate) (text other : List ℕ) →
      HasDenominator certificate → IsSummaryText number t certificate text →
      IsSummaryText number t certificate other → text ≡ other
  pub verdict : (t u : Timing) (certificate another : Certificate) (v w : Verdict) → IsVerdict t certificate v →
      IsVerdict u another w →
      verdict_text_of v ≡ verdict_text_of w → v ≡ w

-- The violations of a schedule name pairs that the design has.
abbrev pub ViolationsNamePairs : Type 0
ViolationsNamePairs = (t : Timing) (s : Schedule) (vs : List Violation) → AreViolations t s vs →
    NamePairs (length t.pairs) vs
