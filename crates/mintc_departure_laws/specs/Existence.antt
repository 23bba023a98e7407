-- That each schedule has departures or a loop, and so a list of violations.
use Rattle.std.specs.Prelude.{ℕ, ℤ, pos, ◌≤ℤ◌, List, [], ◌⊎◌, ◌↔◌}
use Rattle.mintc_timing.specs.declared.clocking.Schedule.{Schedule}
use Rattle.mintc_timing.specs.declared.violation.Violation.{Violation}
use Rattle.mintc_timing.specs.Departures.{AreEarly, AreLate}
use Rattle.mintc_timing.specs.Design.{Timing}
use Rattle.mintc_timing.specs.Limits.{IsDesign}
use Rattle.mintc_timing.specs.Paths.{ArePairs, HasEnds}
use Rattle.mintc_timing.specs.Violations.{AreViolations, HasLoop}
use Rattle.mintc_departure.specs.Laws.{IsOfPhases, IsPass}

-- Data comes later each time that it goes round some loop.
abbrev pub HasSomeLoop : Timing → Schedule → Type 0
HasSomeLoop t s = (loop : List ℕ) × (amount : ℤ) × HasLoop t s loop amount

-- A schedule, whatever its numbers, has late departures or a loop.
abbrev pub HaveLateOrLoop : Type 0
HaveLateOrLoop = (t : Timing) (s : Schedule) → HasEnds t → ((late : List ℤ) × AreLate t s late) ⊎ HasSomeLoop t s

-- Where a schedule has late departures it has early ones.
abbrev pub LateHaveEarly : Type 0
LateHaveEarly = (t : Timing) (s : Schedule) (late : List ℤ) → IsDesign t.flat → ArePairs t.flat t.pairs →
    pos 1 ≤ℤ s.den → AreLate t s late → (early : List ℤ) × AreEarly t s early

-- So there is a list of the violations of each schedule.
abbrev pub SchedulesHaveViolations : Type 0
SchedulesHaveViolations = (t : Timing) (s : Schedule) → IsDesign t.flat → ArePairs t.flat t.pairs → pos 1 ≤ℤ s.den →
    (vs : List Violation) × AreViolations t s vs

-- And each schedule breaks nothing exactly where it passes.
abbrev pub PassesBreakNothing : Type 0
PassesBreakNothing = (t : Timing) (s : Schedule) → IsDesign t.flat → ArePairs t.flat t.pairs → IsOfPhases t.flat s →
    AreViolations t s [] ↔ IsPass t s
