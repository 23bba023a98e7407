use Rattle.std.proofs.Common.{◌<◌, pos, length, get_or, arith}
use Rattle.std.proofs.lemmas.Int.{ints}
use Rattle.std.proofs.lemmas.List.Elements.{All-push}
use Rattle.std.proofs.lemmas.List.Sorted.{All-permutation}
use Rattle.mintc_slack.specs.Gaps.{IsInside}
use Rattle.mintc_slack.proofs.GapLaws.{far_is, made}
use Rattle.mintc_slack.proofs.reduced_costs.turned.Goals as goal

pub loop-gap-preserved : goal.loop-gap-preserved
loop-gap-preserved c =
    let i = c.loop-gap.gap-index in
    let below : i < length c.args.gaps.now = (let test = c.loop-gap-test.true in omega arith) in
    let inside = c.requires i (made 0 (pos 0) 0) below in
    let low = inside.low in
    let high = inside.high in
    rw c.in_ok-push.ensures.items (All-push (IsInside c.args.nodes) c.loop-gap.turned.items _ c.loop-gap.invariant
    (record { from = inside.to; to = inside.from; low = omega (arith, ints, far_is); high = omega (arith, ints, far_is) }))

pub returns : goal.returns
returns c = All-permutation (IsInside c.args.nodes) c.loop-gap.turned.items c.sort_unstable.new.self.items c.sort_unstable.ensures.permutation c.loop-gap.invariant
