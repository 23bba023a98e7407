use Rattle.std.proofs.Common.{◌≡◌}
use Rattle.mintc_verilog_expressions.specs.Expressions.{repeated}
use Rattle.mintc_verilog_expressions.proofs.expressions.repeat.Given as goal

abbrev pub invariant-loop-turn : goal.invariant-loop-turn
invariant-loop-turn l = l.out.items ≡ repeated l._turn l.pieces.items
