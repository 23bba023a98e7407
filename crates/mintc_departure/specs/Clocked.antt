-- what a system keeps with a schedule that fits it
use Rattle.std.specs.Prelude.{◌≡◌, length}
use Rattle.mintc_timing.specs.declared.clocking.Schedule.{Schedule}
use Rattle.mintc_timing.specs.Design.{Timing, phase_count}
use Rattle.mintc_timing.specs.Limits.{IsDesign, IsInRange}
use Rattle.mintc_timing.specs.Order.{IsTiming}

-- A system, and a schedule in range that has its phases.
pub record IsClocked (t : Timing) (s : Schedule) : Type 0 where
  pub design : IsDesign t.flat
  pub timing : IsTiming t.flat t.order t.pairs
  pub range : IsInRange s
  pub phases : length s.starts ≡ phase_count t.flat
