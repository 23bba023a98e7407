use Rattle.std.proofs.Common.{◌+◌, ◌*◌, length}
use Rattle.mintc_verilog_expressions.proofs.Nest.{Listing}
use Rattle.mintc_verilog_expressions.proofs.expressions.+nest.Given as goal

abbrev pub decreases-read_items : goal.decreases-read_items
decreases-read_items l = 4 * l.depth + 1

abbrev pub decreases-read_expression : goal.decreases-read_expression
decreases-read_expression l = 4 * l.depth

abbrev pub decreases-read_inside : goal.decreases-read_inside
decreases-read_inside l = 4 * l.depth + 2

abbrev pub decreases-read_turns : goal.decreases-read_turns
decreases-read_turns l = 4 * l.depth + 1

abbrev pub invariant-read_items-loop-out : goal.invariant-read_items-loop-out
invariant-read_items-loop-out l = Listing l.depth l.initial.reader l.out.items l.reader

abbrev pub decreases-read_items-loop-out : goal.decreases-read_items-loop-out
decreases-read_items-loop-out l = length l.reader
