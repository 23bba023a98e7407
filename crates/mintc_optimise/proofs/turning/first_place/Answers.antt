use Rattle.std.proofs.Common.{arith}
use Rattle.mintc_optimise.proofs.BeginningLaws.{absent_more, absent_read, some_found}
use Rattle.mintc_optimise.proofs.turning.first_place.Goals as goal

pub loop-link-preserved : goal.loop-link-preserved
loop-link-preserved c =
    let chain = c.args.chain.now in
    let links = c.args.links.now in
    let number = c.loop-link.link-index in
    absent_more links chain number c.loop-link.invariant
    (absent_read links chain c.requires.chain _ c.args.places.now c.requires.places number _ c.is_at.result c.loop-link-test.true c.is_at.ensures c.if-is_at.false)

pub unreachable-requires : goal.unreachable-requires
unreachable-requires c =
    some_found c.args.links.now c.args.chain.now c.requires.chain
    (λ e h. c.loop-link.invariant e (let over = c.loop-link-test.false in omega arith))
