-- Each schedule has a list of violations, and breaks nothing exactly where it passes.
use Rattle.std.proofs.Common.{◌≡◌, ℕ, ℤ, List, [], ◌∷◌, ◌++◌, refl, subst, inl, inr, ⊎_elim}
use Rattle.mintc_timing.specs.declared.clocking.Schedule.{Schedule}
use Rattle.mintc_timing.specs.declared.violation.Broken.TheVariants as broken
use Rattle.mintc_timing.specs.declared.violation.Violation.{Violation}
use Rattle.mintc_timing.specs.Departures.{AreLate}
use Rattle.mintc_timing.specs.Design.{Timing}
use Rattle.mintc_timing.specs.Paths.{ArePairs, HasEnds}
use Rattle.mintc_timing.specs.Violations.{AreViolations, check, clock_checks, failed, hold_checks, setup_checks}
use Rattle.mintc_timing.proofs.SharedLoops.{no_loop}
use Rattle.mintc_departure.proofs.SharedPassLaws.{pass_means_right_lem}
use Rattle.mintc_departure_laws.specs.Existence.{HasSomeLoop, PassesBreakNothing, SchedulesHaveViolations}
use Rattle.mintc_departure_laws.proofs.EarlyLaws.{late_have_early_lem}
use Rattle.mintc_departure_laws.proofs.LateLaws.{have_late_or_loop_lem}

pairs_have_ends : (t : Timing) → ArePairs t.flat t.pairs → HasEnds t
pairs_have_ends t pairs k d h = let named = pairs.each k d h in (named.from, named.to)

pub schedules_have_violations_lem : SchedulesHaveViolations
schedules_have_violations_lem t s limits pairs positive =
    ⊎_elim
    (λ (some : (late : List ℤ) × AreLate t s late).
    let early = late_have_early_lem t s some.0 limits pairs positive some.1 in (
      failed (clock_checks t s ++ setup_checks t s some.0 ++ hold_checks t s early.0),
      inr ((λ loop amount has. no_loop t s some.0 some.1.exact pairs.each loop amount has), (some.0, early.0, some.1, early.1, refl)),
    ))
    (λ (some : HasSomeLoop t s). (
      failed (clock_checks t s) ++ check (broken.Loop some.0) some.1 ∷ [],
      inl (some.0, some.1, some.2, refl),
    ))
    (have_late_or_loop_lem t s (pairs_have_ends t pairs))

pub passes_break_nothing_lem : PassesBreakNothing
passes_break_nothing_lem t s limits pairs plain = (
  (λ none. (pass_means_right_lem t s [] pairs plain none).0 refl),
  (λ pass.
      let some = schedules_have_violations_lem t s limits pairs plain.den in
      subst (AreViolations t s) ((pass_means_right_lem t s some.0 pairs plain some.1).1 pass) some.1),
)
