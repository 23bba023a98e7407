-- what the laws of passes say
use Rattle.std.specs.Prelude.{◌≡◌, ◌<◌, ℕ, ℤ, pos, ◌≤ℤ◌, List, [], length, All, ◌↔◌}
use Rattle.mintc_timing.specs.declared.clocking.Schedule.{Schedule}
use Rattle.mintc_timing.specs.declared.violation.Violation.{Violation}
use Rattle.mintc_timing.specs.Design.{Design, Timing, element_count, phase_count}
use Rattle.mintc_timing.specs.Limits.{IsInRange}
use Rattle.mintc_timing.specs.Paths.{ArePairs}
use Rattle.mintc_timing.specs.Departures.{AreEarly, AreLate}
use Rattle.mintc_timing.specs.Right.{IsRight, KeepsHold}
use Rattle.mintc_timing.specs.Violations.{AreViolations}

-- A schedule of the design's phases, over a denominator of at least 1, that starts no phase before time 0 and makes
-- none of a negative width.
pub record IsOfPhases (design : Design) (s : Schedule) : Type 0 where
  pub den : pos 1 ≤ℤ s.den
  pub starts : length s.starts ≡ phase_count design
  pub widths : length s.widths ≡ phase_count design
  pub from_zero : All (λ x. pos 0 ≤ℤ x) s.starts
  pub not_negative : All (λ x. pos 0 ≤ℤ x) s.widths

-- Each schedule in range that has the design's number of phases is one.
abbrev pub InRangeIsOfPhases : Type 0
InRangeIsOfPhases = (t : Timing) (s : Schedule) → IsInRange s → length s.starts ≡ phase_count t.flat →
    IsOfPhases t.flat s

-- Some departures make the schedule right, and each element keeps its hold by the early departures.
abbrev pub IsPass : Timing → Schedule → Type 0
IsPass t s =
    ((d : List ℤ) × IsRight t s d)
    × ((early : List ℤ) × AreEarly t s early × ((l : ℕ) → l < element_count t.flat → KeepsHold t s early l))

-- A schedule breaks nothing exactly where it passes.
abbrev pub PassMeansRight : Type 0
PassMeansRight = (t : Timing) (s : Schedule) (vs : List Violation) → ArePairs t.flat t.pairs → IsOfPhases t.flat s →
    AreViolations t s vs → (vs ≡ []) ↔ IsPass t s

-- And then it is right with its late departures.
abbrev pub PassIsRightWithLate : Type 0
PassIsRightWithLate = (t : Timing) (s : Schedule) (late : List ℤ) → ArePairs t.flat t.pairs → IsOfPhases t.flat s →
    AreViolations t s [] → AreLate t s late → IsRight t s late
