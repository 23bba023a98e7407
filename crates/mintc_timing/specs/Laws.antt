-- What the definitions of the timing model say of one another.
use Rattle.std.specs.Prelude.{◌≡◌, ℕ, ℤ, pos, ◌+ℤ◌, ◌*ℤ◌, ◌≤ℤ◌, List, ◌++◌, map, All, ◌⊎◌, ◌↔◌, IfSome}
use Rattle.mintc_timing.specs.declared.parts.TimingArc.{TimingArc}
use Rattle.mintc_timing.specs.declared.parts.Pair.{Pair}
use Rattle.mintc_timing.specs.declared.clocking.Schedule.{Schedule}
use Rattle.mintc_timing.specs.declared.link.Link.{Link}
use Rattle.mintc_timing.specs.Design.{Design, Timing}
use Rattle.mintc_timing.specs.Paths.{Leads, IsPath, greatest_delay, least_delay, ArePairs, HasEnds}
use Rattle.mintc_timing.specs.Departures.{AreLate, AreEarly}
use Rattle.mintc_timing.specs.Limits.{IsDesign}
use Rattle.mintc_timing.specs.Links.{links_of, IsChain, Forbids, IsStuck}
use Rattle.mintc_timing.specs.Times.{Meets}
use Rattle.mintc_timing.specs.Right.{IsRight, IsLeastCycle, IsHopeless, KeepsSetup, KeepsHold}
use Rattle.mintc_timing.specs.Violations.{AreViolations, EndInLoop, setup_amount, hold_amount}
use Rattle.mintc_timing.specs.declared.violation.Violation.{Violation}

-- Two lists of late departures are one list.
abbrev pub LateAreDetermined : Type 0
LateAreDetermined = (t : Timing) (s : Schedule) (d e : List ℤ) → AreLate t s d → AreLate t s e → d ≡ e

-- Two lists of early departures are one list.
abbrev pub EarlyAreDetermined : Type 0
EarlyAreDetermined = (t : Timing) (s : Schedule) (d e : List ℤ) → AreEarly t s d → AreEarly t s e → d ≡ e

-- The violations are determined, but for the choice of a loop where there is one.
abbrev pub ViolationsAreDetermined : Type 0
ViolationsAreDetermined = (t : Timing) (s : Schedule) (vs ws : List Violation) → AreViolations t s vs →
    AreViolations t s ws → (vs ≡ ws) ⊎ (EndInLoop t s vs × EndInLoop t s ws)

-- A setup is kept exactly where it has no amount above 0.
abbrev pub SetupsHaveAmounts : Type 0
SetupsHaveAmounts = (t : Timing) (s : Schedule) (d : List ℤ) (l : ℕ) →
    KeepsSetup t s d l ↔ IfSome (setup_amount t s d l) (λ x. x ≤ℤ pos 0)

-- A hold is kept exactly where it has no amount above 0.
abbrev pub HoldsHaveAmounts : Type 0
HoldsHaveAmounts = (t : Timing) (s : Schedule) (early : List ℤ) (l : ℕ) →
    KeepsHold t s early l ↔ IfSome (hold_amount t s early l) (λ x. x ≤ℤ pos 0)

-- Two lists of arcs, one after the other, are a listed path, and its sums are those of the parts.
pub record Joined (arcs : List TimingArc) (j bit : ℕ) (front back : List ℕ) : Type 0 where
  pub is_path : IsPath arcs j (front ++ back) bit
  pub greatest : greatest_delay arcs (front ++ back) ≡ greatest_delay arcs front +ℤ greatest_delay arcs back
  pub least : least_delay arcs (front ++ back) ≡ least_delay arcs front +ℤ least_delay arcs back

-- So are a listed path and arcs that go on from its end.
abbrev pub PathsJoin : Type 0
PathsJoin = (arcs : List TimingArc) (j between bit : ℕ) (front back : List ℕ) → IsPath arcs j front between →
    Leads arcs between back bit → Joined arcs j bit front back

-- numbers over a denominator, written over one that is so many times as great
abbrev pub times : ℤ → List ℤ → List ℤ
times factor numbers = map (λ x. x *ℤ factor) numbers

-- a schedule, written over a denominator that is so many times as great
abbrev pub times_schedule : ℤ → Schedule → Schedule
times_schedule factor s = record {
  den = s.den *ℤ factor;
  cycle = s.cycle *ℤ factor;
  starts = times factor s.starts;
  widths = times factor s.widths;
}

-- Right schedules stay right however their numbers are written, so the denominator is no part of the meaning.
abbrev pub RightAtEachDenominator : Type 0
RightAtEachDenominator = (t : Timing) (s : Schedule) (d : List ℤ) (factor : ℤ) → pos 1 ≤ℤ factor → IsRight t s d →
    IsRight t (times_schedule factor s) (times factor d)

-- Two least cycles of a design are the same fraction.
abbrev pub LeastCycleIsDetermined : Type 0
LeastCycleIsDetermined = (t : Timing) (num den other_num other_den : ℤ) → IsLeastCycle t num den →
    IsLeastCycle t other_num other_den → num *ℤ other_den ≡ other_num *ℤ den

-- A design with a least cycle isn't hopeless.
abbrev pub LeastCycleIsNoHopelessness : Type 0
LeastCycleIsNoHopelessness = (t : Timing) (num den : ℤ) → IsLeastCycle t num den → IsHopeless t → ⊥

-- A chain that has no cycle and takes time forbids every cycle time.
abbrev pub ForbidsAll : Type 0
ForbidsAll = (chain : List Link) (num den : ℤ) → IsStuck chain → pos 1 ≤ℤ den → Forbids chain num den

-- The moments of a right schedule and its departures meet each link of the design.
abbrev pub RightMeetsLinks : Type 0
RightMeetsLinks = (t : Timing) (s : Schedule) (d : List ℤ) → IsDesign t.flat → HasEnds t → IsRight t s d →
    All (Meets t.flat s d) (links_of t)

-- So no chain of its links forbids a cycle time that a right schedule has.
abbrev pub NoChainForbidsRight : Type 0
NoChainForbidsRight = (t : Timing) (s : Schedule) (d : List ℤ) (chain : List Link) → IsDesign t.flat → HasEnds t →
    IsRight t s d → IsChain (links_of t) chain → Forbids chain s.cycle s.den → ⊥

-- Two lists of the pairs of a design are one list.
abbrev pub PairsAreDetermined : Type 0
PairsAreDetermined = (design : Design) (pairs others : List Pair) → ArePairs design pairs → ArePairs design others →
    pairs ≡ others
