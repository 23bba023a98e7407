use Rattle.std.proofs.Common.{◌≡◌, take}
use Rattle.mintcx_clock_cells.proofs.copies.copied_names.Given as goal

abbrev pub invariant-loop-name : goal.invariant-loop-name
invariant-loop-name l = l.copy.items ≡ take l.name-index l.names
