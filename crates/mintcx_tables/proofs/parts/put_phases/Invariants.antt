use Rattle.std.proofs.Common.{◌≡◌, ◌++◌, ◌∷◌, map, take, length, codes}
use Rattle.mintc_text.specs.Lines.{text_of}
use Rattle.mintc_timing_text.specs.LineForms.{count_line}
use Rattle.mintcx_tables.specs.Lines.{phase_line}
use Rattle.mintcx_tables.proofs.parts.put_phases.Given as goal

-- the number of lines, and the lines so far are written
abbrev pub invariant-loop-phase : goal.invariant-loop-phase
invariant-loop-phase l =
    l.lines ≡ l.fn.lines ++ text_of (count_line (codes "phases") (length l.phases) ∷ map phase_line (take l.phase-index l.phases))
