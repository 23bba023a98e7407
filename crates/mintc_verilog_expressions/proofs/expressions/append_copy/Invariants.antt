use Rattle.std.proofs.Common.{◌≡◌, ◌++◌, take}
use Rattle.mintc_verilog_expressions.proofs.expressions.append_copy.Given as goal

abbrev pub invariant-loop-piece : goal.invariant-loop-piece
invariant-loop-piece l = l.out.items ≡ l.fn.out.items ++ take l.piece-index l.pieces
