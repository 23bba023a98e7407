use Rattle.std.proofs.Common.{◌≡◌, ◌++◌, ◌∷◌, map, take, length, codes}
use Rattle.mintc_text.specs.Lines.{text_of}
use Rattle.mintc_timing_text.specs.LineForms.{count_line}
use Rattle.mintcx_tables.specs.Lines.{bound_line}
use Rattle.mintcx_tables.proofs.parts.put_bounds.Given as goal

-- the number of lines, and the lines so far are written
abbrev pub invariant-loop-bound : goal.invariant-loop-bound
invariant-loop-bound l =
    l.lines ≡ l.fn.lines ++ text_of (count_line (codes "bounds") (length l.bounds) ∷ map bound_line (take l.bound-index l.bounds))
