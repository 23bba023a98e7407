use Rattle.mintcx_warnings_files.specs.Written.{IsOfPhase}
use Rattle.mintcx_warnings_files.proofs.TextLaws.{AreTexts}
use Rattle.mintcx_warnings_files.proofs.late.late_texts.Given as goal

-- the texts of the phases so far
abbrev pub invariant-loop-at : goal.invariant-loop-at
invariant-loop-at l = AreTexts (IsOfPhase l.clock l.parts) 1 l.at l.lines
