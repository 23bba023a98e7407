use Rattle.std.proofs.Common.{◌≡◌, ◌++◌, ◌∷◌, take, length, codes}
use Rattle.std.specs.List.{flat_map}
use Rattle.mintc_text.specs.Lines.{text_of}
use Rattle.mintc_certificate.specs.Written.{departure_lines}
use Rattle.mintc_timing_text.specs.LineForms.{count_line}
use Rattle.mintc_corners.proofs.writing.put_all_departures.Given as goal

-- the number of corners, and the departures of the corners so far are written
abbrev pub invariant-loop-departures : goal.invariant-loop-departures
invariant-loop-departures l = l.lines ≡ l.fn.lines ++ text_of (count_line (codes "corners") (length l.corners) ∷ flat_map departure_lines (take l.departures-index l.corners))
