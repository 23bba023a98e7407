use Rattle.std.proofs.Common.{arith, subst, sym}
use Rattle.std.proofs.lemmas.Int.{clamps, ints}
use Rattle.mintc_timing.specs.Limits.{IsGap}
use Rattle.mintcx_sdc.proofs.ListedLaws.{turned, turned_range}
use Rattle.mintcx_sdc.proofs.delays.turned_hold.Goals as goal

pub overflow_sub-result : goal.overflow_sub-result
overflow_sub-result c = omega (arith, ints, clamps, c.requires.0, c.requires.1)

pub returns-clause-value : goal.returns-clause-value
returns-clause-value c = turned c.args.output.now.hold c.requires

pub returns-clause-range : goal.returns-clause-range
returns-clause-range c =
    let x = c.args.output.now.hold in
    subst IsGap (sym (turned x c.requires)) (turned_range x c.requires)
