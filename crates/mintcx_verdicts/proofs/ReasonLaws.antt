-- Why a certificate fails a test, by the test's number.
use Rattle.std.proofs.Common.{◌≡◌, ◌≢◌, ℕ, ◌==◌, ℤ, Bool, true, false, List, arith, refl, ap, ◌∙◌, sym, subst, if◌then◌else◌}
use Rattle.mintc_fraction.specs.Ratio.{over}
use Rattle.mintc_text.specs.Lines.{ended}
use Rattle.mintc_timing.specs.declared.clocking.Schedule.{Schedule}
use Rattle.mintc_timing.specs.declared.violation.Violation.{Violation}
use Rattle.mintc_timing.specs.Design.{Timing}
use Rattle.mintc_certificate.specs.declared.certificate.Certificate.{Certificate}
use Rattle.mintc_certificate.specs.declared.certificate.Certificate.TheVariants.{Least, Never}
use Rattle.mintc_certificate.specs.declared.members.Member.{Member}
use Rattle.mintc_certificate.specs.Valid.{Test, number_of, counts, clock, bounds, departures, setups, ring, sums}
use Rattle.mintcx_amounts.specs.declared.unit.Unit.{Unit}
use Rattle.mintcx_verdicts.specs.Arrivals.{departures_text, setups_text}
use Rattle.mintcx_verdicts.specs.Chains.{IsChainReason, stuck_line, sums_over, tight_line}
use Rattle.mintcx_verdicts.specs.Counts.{counts_text}
use Rattle.mintcx_verdicts.specs.Rules.{rules_text}
use Rattle.mintcx_verdicts.specs.Verdicts.{IsReason, test_of}
use Rattle.mintcx_verdicts.proofs.LastLaws.{is_other}

-- a reason for the test of a number
pub reason_at : (t : Timing) (certificate : Certificate) (unit : Unit) (vs : List Violation) (text : List ℕ) (n : ℕ) (test : Test) →
    test_of n ≡ test → IsReason t certificate unit vs test text → IsReason t certificate unit vs (test_of n) text
reason_at t certificate unit vs text n test e h = subst (λ (x : Test). IsReason t certificate unit vs x text) (sym e) h

-- what is told of a schedule with its departures and a chain
module _ (t : Timing) (s : Schedule) (d : List ℤ) (chain : List Member) (unit : Unit) (vs : List Violation) (n : ℕ) where
  pub clock_reason : n ≡ 2 → IsReason t (Least s d chain) unit vs (test_of n) (rules_text t s unit false vs)
  clock_reason e = reason_at t (Least s d chain) unit vs (rules_text t s unit false vs) n clock (ap test_of e) refl

  pub bounds_reason : n ≡ 3 → IsReason t (Least s d chain) unit vs (test_of n) (rules_text t s unit true vs)
  bounds_reason e = reason_at t (Least s d chain) unit vs (rules_text t s unit true vs) n bounds (ap test_of e) refl

  pub departures_reason : n ≡ 4 → IsReason t (Least s d chain) unit vs (test_of n) (departures_text t s d unit)
  departures_reason e = reason_at t (Least s d chain) unit vs (departures_text t s d unit) n departures (ap test_of e) refl

  pub setups_reason : n ≡ 5 → IsReason t (Least s d chain) unit vs (test_of n) (setups_text t s d unit)
  setups_reason e = reason_at t (Least s d chain) unit vs (setups_text t s d unit) n setups (ap test_of e) refl

  pub ring_reason : (text : List ℕ) → n ≡ 6 → IsChainReason t chain text → IsReason t (Least s d chain) unit vs (test_of n) text
  ring_reason text e h = reason_at t (Least s d chain) unit vs text n ring (ap test_of e) h

  pub sums_reason : test_of n ≡ sums →
      IsReason t (Least s d chain) unit vs (test_of n) (ended (tight_line unit (over s.cycle s.den) (sums_over t.flat chain)))
  sums_reason e = reason_at t (Least s d chain) unit vs (ended (tight_line unit (over s.cycle s.den) (sums_over t.flat chain))) n sums e refl

  pub counts_reason : (certificate : Certificate) → certificate ≡ Least s d chain → n ≡ 1 → IsReason t certificate unit vs (test_of n) (counts_text t.flat s d)
  counts_reason certificate is e =
      subst (λ (x : Certificate). IsReason t x unit vs (test_of n) (counts_text t.flat s d)) (sym is)
      (reason_at t (Least s d chain) unit vs (counts_text t.flat s d) n counts (ap test_of e) refl)

-- the test that some answers choose, of which the first that is true counts
abbrev by_flags : Bool → Bool → Bool → Bool → Bool → Bool → Test
by_flags a b c d e f =
    if a then counts else if b then clock else if c then bounds else if d then departures else if e then setups else if f then ring else sums

-- a number above 6 is that of the sums
pub is_sums : (n : ℕ) → (n ≡ 1 → ⊥) → (n ≡ 2 → ⊥) → (n ≡ 3 → ⊥) → (n ≡ 4 → ⊥) → (n ≡ 5 → ⊥) → (n ≡ 6 → ⊥) → test_of n ≡ sums
is_sums n a b c d e f = λ i. by_flags (is_other n 1 a i) (is_other n 2 b i) (is_other n 3 c i) (is_other n 4 d i) (is_other n 5 e i) (is_other n 6 f i)

-- a chain alone that fails another test than that of the ring
pub stuck_reason : (t : Timing) (chain : List Member) (unit : Unit) (vs : List Violation) (test : Test) → test ≢ ring →
    IsReason t (Never chain) unit vs test (ended (stuck_line unit (sums_over t.flat chain)))
stuck_reason t chain unit vs counts other = refl
stuck_reason t chain unit vs clock other = refl
stuck_reason t chain unit vs bounds other = refl
stuck_reason t chain unit vs departures other = refl
stuck_reason t chain unit vs setups other = refl
stuck_reason t chain unit vs ring other = absurd (other refl)
stuck_reason t chain unit vs sums other = refl

flags_ring : (a b c d e : Bool) → by_flags a b c d e false ≡ ring → ⊥
flags_ring true b c d e h = let k : 1 ≡ 6 = ap number_of h in omega (arith, k)
flags_ring false true c d e h = let k : 2 ≡ 6 = ap number_of h in omega (arith, k)
flags_ring false false true d e h = let k : 3 ≡ 6 = ap number_of h in omega (arith, k)
flags_ring false false false true e h = let k : 4 ≡ 6 = ap number_of h in omega (arith, k)
flags_ring false false false false true h = let k : 5 ≡ 6 = ap number_of h in omega (arith, k)
flags_ring false false false false false h = let k : 7 ≡ 6 = ap number_of h in omega (arith, k)

flags_counts : (b c d e f : Bool) → by_flags false b c d e f ≡ counts → ⊥
flags_counts true c d e f h = let k : 2 ≡ 1 = ap number_of h in omega (arith, k)
flags_counts false true d e f h = let k : 3 ≡ 1 = ap number_of h in omega (arith, k)
flags_counts false false true e f h = let k : 4 ≡ 1 = ap number_of h in omega (arith, k)
flags_counts false false false true f h = let k : 5 ≡ 1 = ap number_of h in omega (arith, k)
flags_counts false false false false true h = let k : 6 ≡ 1 = ap number_of h in omega (arith, k)
flags_counts false false false false false h = let k : 7 ≡ 1 = ap number_of h in omega (arith, k)

-- a number other than that of the test of the ring
pub not_ring : (n : ℕ) → (n ≡ 6 → ⊥) → test_of n ≢ ring
not_ring n h e =
    flags_ring (n == 1) (n == 2) (n == 3) (n == 4) (n == 5) (ap (λ (x : Bool). by_flags (n == 1) (n == 2) (n == 3) (n == 4) (n == 5) x) (sym (is_other n 6 h)) ∙ e)

-- a number other than that of the first test
pub not_counts : (n : ℕ) → (n ≡ 1 → ⊥) → test_of n ≢ counts
not_counts n h e =
    flags_counts (n == 2) (n == 3) (n == 4) (n == 5) (n == 6) (ap (λ (x : Bool). by_flags x (n == 2) (n == 3) (n == 4) (n == 5) (n == 6)) (sym (is_other n 1 h)) ∙ e)
