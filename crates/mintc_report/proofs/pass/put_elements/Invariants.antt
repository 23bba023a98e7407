use Rattle.mintc_report.specs.Answers.{AppendsLines, AreElementLines}
use Rattle.mintc_report.proofs.pass.put_elements.Given as goal

-- the lines so far are written
abbrev pub invariant-loop-number : goal.invariant-loop-number
invariant-loop-number l = AppendsLines (AreElementLines l.elements l.den l.late l.early l.number) l.fn.lines l.lines
