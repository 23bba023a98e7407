use Rattle.std.proofs.Common.{◌+◌, ◌-◌, ◌*◌, get_or, drop, arith}
use Rattle.mintc_verilog_expressions.proofs.Values.{value-above, value-turn}
use Rattle.mintc_verilog_expressions.proofs.numbers.value_within.Goals as goal

pub returns-then-value-most : goal.returns-then-value-most
returns-then-value-most c =
    let digits = c.args.digits.now in
    let next = 10 * c.loop-at.value + (get_or digits c.loop-at.at 0 - 48) in
    let turn = value-turn c.loop-at.value digits c.loop-at.at c.loop-at-test.true in
    let above = value-above next (drop (c.loop-at.at + 1) digits) in
    omega (arith, turn, above, c.loop-at.invariant.whole)
