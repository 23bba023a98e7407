use Rattle.std.proofs.Common.{◌≡◌, ◌-◌, ℤ, length}
use Rattle.mintc_timing_text.specs.Reading.{Reading, HasPassed}
use Rattle.mintc_timing_text.specs.Texts.{NextAlone, den, phase, no_phases, schedule_of}
use Rattle.mintc_timing_text.proofs.schedule_text.phases.Given as goal

-- the lines so far gave these starts and widths
abbrev pub invariant-loop-phase : goal.invariant-loop-phase
invariant-loop-phase l =
    (length l.starts.items ≡ l._phase) × (length l.widths.items ≡ l._phase)
    × ((begun : Reading) (d t : ℤ) → HasPassed NextAlone den begun l.fn.reader (phase l.fn.count (no_phases d t)) →
    HasPassed NextAlone den begun l.reader (phase (l.fn.count - l._phase) (schedule_of d t l.starts.items l.widths.items)))
