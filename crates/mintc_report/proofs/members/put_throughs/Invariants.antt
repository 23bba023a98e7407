use Rattle.std.proofs.Common.{◌≡◌, ◌++◌, map, take}
use Rattle.mintc_text.specs.Lines.{text_of}
use Rattle.mintc_report.specs.Reports.{through_line}
use Rattle.mintc_report.proofs.members.put_throughs.Given as goal

-- the lines so far are written
abbrev pub invariant-loop-number : goal.invariant-loop-number
invariant-loop-number l = l.lines ≡ l.fn.lines ++ text_of (map (through_line l.system.flat) (take l.number-index l.arcs))
