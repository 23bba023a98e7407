use Rattle.std.specs.List.{AllWithin}
use Rattle.mintcx_clock_cells.specs.Clocks.{IsFit}
use Rattle.mintcx_clock_cells.proofs.choosing.check_gates.Given as goal

abbrev pub invariant-loop-at : goal.invariant-loop-at
invariant-loop-at l = AllWithin (IsFit l.senses l.cells) l.gates 0 l.at
