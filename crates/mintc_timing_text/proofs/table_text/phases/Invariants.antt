use Rattle.std.proofs.Common.{ℕ, List}
use Rattle.mintc_text.specs.declared.limits.TheConstants.{MOST_PHASES}
use Rattle.mintc_timing_text.specs.declared.table_lines.Version.{Version}
use Rattle.mintc_timing_text.specs.TableText.{phase, empty}
use Rattle.mintc_timing_text.proofs.TableReading.{At, SoFar, phase_states}
use Rattle.mintc_timing_text.proofs.table_text.phases.Given as goal

-- the lines so far
abbrev pub invariant-loop-phase : goal.invariant-loop-phase
invariant-loop-phase l = (text : List ℕ) (v : Version) → At text l.initial.reader (phase v l.count empty) → SoFar (phase_states v) MOST_PHASES text l.reader l.kept.items l._phase l.count
