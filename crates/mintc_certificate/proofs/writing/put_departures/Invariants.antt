use Rattle.std.proofs.Common.{◌≡◌, ◌++◌, ◌∷◌, map, take, length, codes}
use Rattle.mintc_text.specs.Lines.{text_of}
use Rattle.mintc_timing_text.specs.LineForms.{count_line, number_line}
use Rattle.mintc_certificate.proofs.writing.put_departures.Given as goal

-- the number of lines, and the lines so far are written
abbrev pub invariant-loop-departure : goal.invariant-loop-departure
invariant-loop-departure l =
    l.lines ≡ l.fn.lines ++ text_of (count_line (codes "departures") (length l.departures) ∷ map (number_line (codes "departure")) (take l.departure-index l.departures))
