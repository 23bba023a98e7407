use Rattle.std.proofs.Common.{◌≡◌, ◌++◌, map, take}
use Rattle.std.specs.List.{zip}
use Rattle.mintc_text.specs.Lines.{text_of}
use Rattle.mintc_timing_text.specs.LineForms.{phase_line}
use Rattle.mintc_certificate.proofs.writing.put_phases.Given as goal

-- the lines so far are written
abbrev pub invariant-loop-index : goal.invariant-loop-index
invariant-loop-index l = l.lines ≡ l.fn.lines ++ text_of (map phase_line (take l.index (zip l.starts l.widths)))
