-- The test of a number, and what a certificate that fails it passes.
use Rattle.std.proofs.Common.{◌≡◌, ◌≢◌, ℕ, ℤ, List, All, length, arith, refl, ap, ◌∙◌, sym, subst}
use Rattle.mintc_timing.specs.declared.clocking.Schedule.{Schedule}
use Rattle.mintc_timing.specs.Design.{Timing, phase_count}
use Rattle.mintc_certificate.specs.declared.certificate.Certificate.{Certificate}
use Rattle.mintc_certificate.specs.declared.certificate.Certificate.TheVariants.{Least, Never}
use Rattle.mintc_certificate.specs.declared.members.Member.{Member}
use Rattle.mintc_certificate.specs.Valid.{Test, number_of, IsNamed, counts, clock, bounds, departures, setups, ring, sums}
use Rattle.mintc_checker.specs.declared.verdict.Verdict.TheVariants.{Invalid}
use Rattle.mintc_checker.specs.Verdicts.{FailsFirst, IsVerdict}
use Rattle.mintcx_verdicts.specs.Verdicts.{test_of}
use Rattle.mintcx_verdicts.proofs.ChainLaws.{all_named}

-- the test of a test's own number
by_number : (test : Test) → test_of (number_of test) ≡ test
by_number counts = refl
by_number clock = refl
by_number bounds = refl
by_number departures = refl
by_number setups = refl
by_number ring = refl
by_number sums = refl

-- what a verdict says of the test of its number
pub fails_of : (t : Timing) (certificate : Certificate) (n : ℕ) → IsVerdict t certificate (Invalid n) → FailsFirst t certificate (test_of n)
fails_of t certificate n verdict =
    subst (FailsFirst t certificate) (sym (by_number verdict.0) ∙ ap test_of verdict.1) verdict.2

-- behind the first test the phases are the design's
pub phases_are : (t : Timing) (s : Schedule) (d : List ℤ) (chain : List Member) (test : Test) → FailsFirst t (Least s d chain) test → test ≢ counts → length s.starts ≡ phase_count t.flat
phases_are t s d chain counts h behind = absurd (behind refl)
phases_are t s d chain clock h behind = (h.before counts (omega arith)).0
phases_are t s d chain bounds h behind = (h.before counts (omega arith)).0
phases_are t s d chain departures h behind = (h.before counts (omega arith)).0
phases_are t s d chain setups h behind = (h.before counts (omega arith)).0
phases_are t s d chain ring h behind = (h.before counts (omega arith)).0
phases_are t s d chain sums h behind = (h.before counts (omega arith)).0

-- behind the test of the ring the members are named
pub least_named : (t : Timing) (s : Schedule) (d : List ℤ) (chain : List Member) → FailsFirst t (Least s d chain) sums → All (IsNamed t.flat) chain
least_named t s d chain h = all_named t chain (h.before ring (omega arith)).0

-- a chain alone that doesn't fail the test of the ring passes it
pub never_named : (t : Timing) (chain : List Member) (test : Test) → FailsFirst t (Never chain) test → test ≢ ring → All (IsNamed t.flat) chain
never_named t chain counts h other = absurd (h.fails tt)
never_named t chain clock h other = absurd (h.fails tt)
never_named t chain bounds h other = absurd (h.fails tt)
never_named t chain departures h other = absurd (h.fails tt)
never_named t chain setups h other = absurd (h.fails tt)
never_named t chain ring h other = absurd (other refl)
never_named t chain sums h other = all_named t chain (h.before ring (omega arith)).0
