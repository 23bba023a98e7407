use Rattle.std.proofs.Common.{◌≡◌, ◌++◌, take}
use Rattle.mintc_text.specs.Lines.{text_of}
use Rattle.mintc_report.specs.Answers.{reach_lines}
use Rattle.mintc_report.proofs.fail.put_ring.Given as goal

-- the lines so far are written
abbrev pub invariant-loop-number : goal.invariant-loop-number
invariant-loop-number l = l.lines ≡ l.fn.lines ++ text_of (reach_lines l.pairs (take l.number-index l.ring))
