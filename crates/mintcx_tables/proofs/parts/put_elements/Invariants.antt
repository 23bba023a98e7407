use Rattle.std.proofs.Common.{◌≡◌, ◌++◌, ◌∷◌, map, take, length, codes}
use Rattle.mintc_text.specs.Lines.{text_of}
use Rattle.mintc_timing_text.specs.LineForms.{count_line}
use Rattle.mintcx_tables.specs.Lines.{element_line}
use Rattle.mintcx_tables.proofs.parts.put_elements.Given as goal

-- the number of lines, and the lines so far are written
abbrev pub invariant-loop-element : goal.invariant-loop-element
invariant-loop-element l =
    l.lines ≡ l.fn.lines ++ text_of (count_line (codes "elements") (length l.elements) ∷ map element_line (take l.element-index l.elements))
