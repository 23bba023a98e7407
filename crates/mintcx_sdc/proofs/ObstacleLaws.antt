-- What a schedule without an obstacle keeps.
use Rattle.std.proofs.Common.{◌≡◌, zero, suc, ℤ, pos, negsuc, ◌≤ℤ◌, Bool, true, false, if◌then◌else◌, refl, arith}
use Rattle.std.specs.Prelude.{Option, Some, None}
use Rattle.std.specs.Option.{option_or}
use Rattle.std.specs.Ordering.{int_eq}
use Rattle.std.proofs.lemmas.Bool.Decides.{Decides-int_eq, not_from_Decides}
use Rattle.std.proofs.lemmas.Int.{ints}
use Rattle.mintc_timing.specs.declared.clocking.Schedule.{Schedule}
use Rattle.mintc_clock.specs.declared.clock.Clock.{Clock}
use Rattle.mintcx_sdc.specs.declared.obstacles.Obstacle.{Obstacle}
use Rattle.mintcx_sdc.specs.declared.obstacles.Obstacle.TheVariants.{Denominator, NoCycle}
use Rattle.mintcx_sdc.specs.Obstacles.{obstacle_in, parts_obstacle, scale_obstacle}

scale_parts : (s : Schedule) (d e : Bool) → (if d then (if e then Some NoCycle else None) else Some (Denominator s.den)) ≡ None → e ≡ false
scale_parts s true true h = absurd (cc)
scale_parts s true false h = refl
scale_parts s false e h = absurd (cc)

first_is_none : (a b : Option Obstacle) → option_or a b ≡ None → a ≡ None
first_is_none None b h = refl
first_is_none (Some x) b h = absurd (cc)

positive : (x : ℤ) → pos 0 ≤ℤ x → (x ≡ pos 0 → ⊥) → pos 1 ≤ℤ x
positive (pos zero) low other = absurd (other refl)
positive (pos (suc n)) low other = omega (arith, ints)
positive (negsuc n) low other = absurd (omega (arith, ints))

-- its cycle time is above 0
pub some_cycle : (clock : Clock) (s : Schedule) → pos 0 ≤ℤ s.cycle → obstacle_in clock s ≡ None → pos 1 ≤ℤ s.cycle
some_cycle clock s low none =
    let zero_fails : int_eq s.cycle (pos 0) ≡ false =
    scale_parts s (int_eq s.den (pos 1)) (int_eq s.cycle (pos 0)) (first_is_none (scale_obstacle s) (parts_obstacle clock s) none) in
    positive s.cycle low (not_from_Decides (int_eq s.cycle (pos 0)) (Decides-int_eq s.cycle (pos 0)) zero_fails)
