use Rattle.std.proofs.Common.{◌<◌, length, map, arith, refl, ap}
use Rattle.std.proofs.lemmas.List.{length-map, take_more}
use Rattle.mintc_timing.specs.Links.{link_at}
use Rattle.mintc_slack.specs.Gaps.{gap_of}
use Rattle.mintc_slack.proofs.GapLaws.{weighed}
use Rattle.mintc_slack.proofs.reduced_costs.gaps.Goals as goal

pub loop-link-preserved : goal.loop-link-preserved
loop-link-preserved c =
    let f = gap_of c.args.at.now c.args.potentials.now in
    let links = c.args.list.now.links in
    let i = c.loop-link.link-index in
    let count = length-map links f in
    let below : i < length links = omega (arith, ap length c.items-link-items.ensures.value) in
    let g = f (link_at links i) in
    let is = weighed f c.items-link-items.result.now links i _ c.weigh.result c.items-link-items.ensures.value below c.weigh.ensures in
    rw (c.in_ok-push.ensures.items, take_more (map f links) i g (omega arith), c.loop-link.invariant, is) refl
