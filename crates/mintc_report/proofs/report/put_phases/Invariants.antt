use Rattle.mintc_report.specs.Answers.{AppendsLines}
use Rattle.mintc_report.specs.Reports.{ArePhaseLines}
use Rattle.mintc_report.proofs.report.put_phases.Given as goal

-- the lines so far are written
abbrev pub invariant-loop-index : goal.invariant-loop-index
invariant-loop-index l = AppendsLines (ArePhaseLines l.names l.schedule l.index) l.fn.lines l.lines
