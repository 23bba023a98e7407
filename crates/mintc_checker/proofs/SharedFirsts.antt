-- The first test that fails.
use Rattle.std.proofs.Common.{◌≡◌, ◌≤◌, ◌+◌, ◌-◌, List, [], ◌∷◌, get_or, arith, refl, ap, ◌∙◌, sym, subst, ⊎_elim}
use Rattle.std.proofs.lemmas.Bool.{cases_eq}
use Rattle.mintc_timing.specs.Design.{Timing}
use Rattle.mintc_certificate.specs.declared.certificate.Certificate.{Certificate}
use Rattle.mintc_certificate.specs.Valid.{Test, number_of, Passes, counts, clock, bounds, departures, setups, ring, sums}
use Rattle.mintc_checker.specs.declared.verdict.Verdict.TheVariants.{Valid, Invalid}
use Rattle.mintc_checker.specs.Verdicts.{PassesBelow, IsVerdict}

-- Each test stands at its number among all of them.
abbrev tests : List Test
tests = counts ∷ clock ∷ bounds ∷ departures ∷ setups ∷ ring ∷ sums ∷ []

place_of : (test : Test) → get_or tests (number_of test - 1) counts ≡ test
place_of counts = refl
place_of test = refl

-- the numbers of tests
pub number-range : (test : Test) → (1 ≤ number_of test) × (number_of test ≤ 7)
number-range counts = (omega arith, omega arith)
number-range test = (omega arith, omega arith)

module _ (t : Timing) (certificate : Certificate) where
  none_below : PassesBelow t certificate 1
  none_below test below = let range = number-range test in absurd (omega (arith, range.0))

  -- one more test
  pub passes_more : (test : Test) → PassesBelow t certificate (number_of test) → Passes t certificate test → PassesBelow t certificate (number_of test + 1)
  passes_more test before here other below = ⊎_elim
      (λ (e : number_of other ≡ number_of test). subst (Passes t certificate) (sym (place_of test) ∙ ap (λ n. get_or tests (n - 1) counts) (sym e) ∙ place_of other) here)
      (λ ne. before other (omega arith))
      (cases_eq (number_of other) (number_of test))

  -- the first tests
  pub after_counts : Passes t certificate counts → PassesBelow t certificate 2
  after_counts a = passes_more counts none_below a

  pub after_clock : Passes t certificate counts → Passes t certificate clock → PassesBelow t certificate 3
  after_clock a b = passes_more clock (after_counts a) b

  pub after_bounds : Passes t certificate counts → Passes t certificate clock → Passes t certificate bounds → PassesBelow t certificate 4
  after_bounds a b c = passes_more bounds (after_clock a b) c

  pub after_departures : Passes t certificate counts → Passes t certificate clock → Passes t certificate bounds → Passes t certificate departures → PassesBelow t certificate 5
  after_departures a b c d = passes_more departures (after_bounds a b c) d

  pub after_setups : Passes t certificate counts → Passes t certificate clock → Passes t certificate bounds → Passes t certificate departures → Passes t certificate setups → PassesBelow t certificate 6
  after_setups a b c d e = passes_more setups (after_departures a b c d) e

  -- the verdict
  pub fails_first : (test : Test) → PassesBelow t certificate (number_of test) → (Passes t certificate test → ⊥) → IsVerdict t certificate (Invalid (number_of test))
  fails_first test before fails = (test, refl, record { fails = fails; before = before })

  pub fails_counts : (Passes t certificate counts → ⊥) → IsVerdict t certificate (Invalid 1)
  fails_counts fails = fails_first counts none_below fails

  pub valid_of : PassesBelow t certificate 6 → Passes t certificate ring → Passes t certificate sums → IsVerdict t certificate Valid
  valid_of before a b test = let range = number-range test in passes_more sums (passes_more ring before a) b test (omega (arith, range.1))
