use Rattle.std.proofs.Common.{◌≡◌, ◌++◌, ◌∷◌, map, take, length, codes}
use Rattle.mintc_text.specs.Lines.{text_of}
use Rattle.mintc_timing_text.specs.LineForms.{count_line}
use Rattle.mintcx_tables.specs.Lines.{arc_line}
use Rattle.mintcx_tables.proofs.parts.put_arcs.Given as goal

-- the number of lines, and the lines so far are written
abbrev pub invariant-loop-arc : goal.invariant-loop-arc
invariant-loop-arc l =
    l.lines ≡ l.fn.lines ++ text_of (count_line (codes "arcs") (length l.arcs) ∷ map (arc_line l.elements) (take l.arc-index l.arcs))
