use Rattle.mintc_report.specs.Answers.{AppendsLines}
use Rattle.mintc_report.specs.Reports.{AreLateLines}
use Rattle.mintc_report.proofs.report.put_departures.Given as goal

-- the lines so far are written
abbrev pub invariant-loop-number : goal.invariant-loop-number
invariant-loop-number l = AppendsLines (AreLateLines l.elements l.den l.late l.number) l.fn.lines l.lines
