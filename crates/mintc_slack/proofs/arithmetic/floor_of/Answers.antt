use Rattle.std.proofs.Common.{ap, ◌∙◌, arith}
use Rattle.std.proofs.lemmas.Int.{ints}
use Rattle.mintc_fraction.specs.Ratio.{Ratio}
use Rattle.mintc_slack.proofs.SizeLaws.{floor-small, floor-whole, read_wide}
use Rattle.mintc_slack.proofs.arithmetic.floor_of.Goals as goal

pub returns : goal.returns
returns c =
    let read = read_wide c.args.left (omega (arith, ints), omega (arith, ints)) in
    let small = floor-small c.args.left c.over_den.result.num c.floor_at.result c.requires.left (ap (λ (f : Ratio). f.num) c.over_den.ensures.value ∙ read) c.floor_at.ensures.bound in
    rw (read_wide c.floor_at.result small)
    (record { whole = floor-whole c.args.cycle.now c.args.left c.floor_at.result (rw (c.over_den.ensures.value, read) at c.floor_at.ensures.value); range = small })
