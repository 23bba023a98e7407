-- What the last arrivals make of departures and setups.
use Rattle.std.proofs.Common.{◌≡◌, ℕ, ◌<◌, ℤ, pos, ◌+ℤ◌, ◌*ℤ◌, ◌≤ℤ◌, ◌↔◌, true, false, List, length, refl, Option, Some, None}
use Rattle.mintc_timing.specs.declared.clocking.Schedule.{Schedule}
use Rattle.mintc_timing.specs.Departures.{late_arrivals, late_departure, late_opening}
use Rattle.mintc_timing.specs.Design.{Design, element_at}
use Rattle.mintc_timing.specs.Extremes.{greater_of, greatest_of}
use Rattle.mintc_timing.specs.Right.{KeepsSetup}
use Rattle.mintc_timing.proofs.SharedSetupLaws.{KeepsSetup-flop}
use Rattle.mintc_checker.specs.Decided.{OfTiming}
use Rattle.mintc_checker.specs.Trails.{IsLastArrival}
use Rattle.mintc_checker.proofs.Pairing.{arrivals_are, of_timing, timing_of}

module _ (design : Design) (s : Schedule) (d : List ℤ) (l : ℕ) where
  -- a latch's departure, by its last arrival
  pub departs-latch : (last : Option ℤ) → pos 1 ≤ℤ s.den → l < length design.elements → (element_at design l).flop ≡ false → IsLastArrival design s d l last →
      OfTiming design (λ t. greater_of (late_opening design s l) last ≡ late_departure t s d l)
  departs-latch last positive inside latch h = of_timing design (λ t. greater_of (late_opening design s l) last ≡ late_departure t s d l) (λ along pairs are_pairs.
      let top : greatest_of (late_arrivals (timing_of design along pairs) s d l) ≡ last = arrivals_are design along pairs are_pairs s d positive l inside last h in
      rw (latch, top) refl)

  -- what the setup of a flop asks, by its last arrival
  pub setup-flop : (a : ℤ) → pos 1 ≤ℤ s.den → l < length design.elements → (element_at design l).flop ≡ true → IsLastArrival design s d l (Some a) →
      OfTiming design (λ t. KeepsSetup t s d l ↔ ((a +ℤ (element_at design l).setup *ℤ s.den) ≤ℤ pos 0))
  setup-flop a positive inside flop last = of_timing design (λ t. KeepsSetup t s d l ↔ ((a +ℤ (element_at design l).setup *ℤ s.den) ≤ℤ pos 0)) (λ along pairs are_pairs.
      KeepsSetup-flop (timing_of design along pairs) s d l a flop (arrivals_are design along pairs are_pairs s d positive l inside (Some a) last))

  pub setup-none : pos 1 ≤ℤ s.den → l < length design.elements → (element_at design l).flop ≡ true → IsLastArrival design s d l None → OfTiming design (λ t. KeepsSetup t s d l)
  setup-none positive inside flop last = of_timing design (λ t. KeepsSetup t s d l) (λ along pairs are_pairs.
      let top : greatest_of (late_arrivals (timing_of design along pairs) s d l) ≡ None = arrivals_are design along pairs are_pairs s d positive l inside None last in
      rw (flop, top) tt)
