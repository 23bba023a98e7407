use Rattle.std.proofs.Common.{arith}
use Rattle.std.proofs.lemmas.Int.{ints}
use Rattle.mintc_slack.proofs.SizeLaws.{asked_small}
use Rattle.mintc_slack.proofs.arithmetic.asked_of.Goals as goal

pub returns-clause-small : goal.returns-clause-small
returns-clause-small c =
    let small = asked_small c.args.at.now c.args.link.now c.requires.cycle c.requires.delay c.requires.cycles in
    (omega (arith, ints), omega (arith, ints))
