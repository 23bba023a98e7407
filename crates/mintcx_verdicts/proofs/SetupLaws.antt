-- The amount of a latch's setup.
use Rattle.std.proofs.Common.{◌≡◌, ℕ, ℤ, pos, ◌+ℤ◌, ◌-ℤ◌, ◌*ℤ◌, Bool, false, List, Some, ap, sym, if◌then◌else◌}
use Rattle.std.specs.Int.{int_max}
use Rattle.std.specs.Prelude.{option_map}
use Rattle.mintc_timing.specs.declared.clocking.Schedule.{Schedule}
use Rattle.mintc_timing.specs.Clocking.{width_of}
use Rattle.mintc_timing.specs.Departures.{departure, late_arrivals}
use Rattle.mintc_timing.specs.Design.{Timing, element_at, phase_of}
use Rattle.mintc_timing.specs.Extremes.{greatest_of}
use Rattle.mintc_timing.specs.Violations.{setup_amount}

pub latch_amount : (t : Timing) (s : Schedule) (d : List ℤ) (l : ℕ) → (element_at t.flat l).flop ≡ false →
    Some (int_max (pos 0) (departure d l) +ℤ (element_at t.flat l).setup *ℤ s.den -ℤ width_of s (phase_of t.flat l)) ≡ setup_amount t s d l
latch_amount t s d l latch =
    ap (λ (b : Bool). if b then option_map (λ a. a +ℤ (element_at t.flat l).setup *ℤ s.den) (greatest_of (late_arrivals t s d l))
    else Some (int_max (pos 0) (departure d l) +ℤ (element_at t.flat l).setup *ℤ s.den -ℤ width_of s (phase_of t.flat l))) (sym latch)
