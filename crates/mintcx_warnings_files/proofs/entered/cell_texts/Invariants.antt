use Rattle.mintcx_warnings_files.specs.Written.{IsOfCell}
use Rattle.mintcx_warnings_files.proofs.TextLaws.{AreTexts}
use Rattle.mintcx_warnings_files.proofs.entered.cell_texts.Given as goal

-- the texts of the cells so far
abbrev pub invariant-loop-cell : goal.invariant-loop-cell
invariant-loop-cell l = AreTexts (IsOfCell l.met.cells.now l.parts l.met.paths.now) 0 l.cell l.lines
