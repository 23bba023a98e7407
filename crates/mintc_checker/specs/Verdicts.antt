-- Verdicts on a certificate: which tests it passes, and which it fails first.
use Rattle.std.specs.Prelude.{◌≡◌, ◌<◌, ℕ, ℤ, List, Option, None, Some}
use Rattle.mintc_timing.specs.declared.clocking.Schedule.{Schedule}
use Rattle.mintc_timing.specs.Design.{Timing}
use Rattle.mintc_certificate.specs.declared.members.Member.{Member}
use Rattle.mintc_certificate.specs.declared.certificate.Certificate.{Certificate}
use Rattle.mintc_certificate.specs.declared.certificate.Certificate.TheVariants.{Least}
use Rattle.mintc_certificate.specs.Valid.{Test, number_of, Passes, IsValid}
use Rattle.mintc_checker.specs.declared.verdict.Verdict.{Verdict}
use Rattle.mintc_checker.specs.declared.verdict.Verdict.TheVariants.{Valid, Invalid}

-- The certificate passes each test whose number is below this one.
abbrev pub PassesBelow : Timing → Certificate → ℕ → Type 0
PassesBelow t certificate n = (test : Test) → number_of test < n → Passes t certificate test

-- The certificate fails this test, and passes those before it.
pub record FailsFirst (t : Timing) (certificate : Certificate) (test : Test) : Type 0 where
  pub fails : Passes t certificate test → ⊥
  pub before : (other : Test) → number_of other < number_of test → Passes t certificate other

-- The verdict is valid where every test passes, or the number of the first that fails.
abbrev pub IsVerdict : Timing → Certificate → Verdict → Type 0
IsVerdict t certificate Valid = IsValid t certificate
IsVerdict t certificate (Invalid n) = (test : Test) × (number_of test ≡ n) × FailsFirst t certificate test

-- With this schedule and any chain a certificate fails the test of this number first, or it passes the first five.
abbrev pub IsFirstOfSchedule : Timing → Schedule → List ℤ → Option ℕ → Type 0
IsFirstOfSchedule t s d None = (chain : List Member) → PassesBelow t (Least s d chain) 6
IsFirstOfSchedule t s d (Some n) = (chain : List Member) → IsVerdict t (Least s d chain) (Invalid n)
