use Rattle.std.proofs.Common.{◌≡◌, ◌<◌, ◌≤ℤ◌, ◌<ℤ◌, pos, [], length, arith, ◌∙◌, below_more}
use Rattle.std.proofs.lemmas.Int.{ints}
use Rattle.std.proofs.lemmas.List.{get_or_default}
use Rattle.std.proofs.Math.ListN.{length-set}
use Rattle.mintc_graph_walks.specs.Walks.{value_at}
use Rattle.mintc_slack.proofs.GapLaws.{far_is, home-next, home-same, home-shorter, shorter-on}
use Rattle.mintc_slack.proofs.SizeLaws.{narrow, read_narrow}
use Rattle.mintc_slack.proofs.nearest.cap_at.Goals as goal
use Rattle.mintc_slack.proofs.nearest.cap_at.Goals.{then-index-home, else-index-home}

pub loop-node-preserved : goal.loop-node-preserved
loop-node-preserved c =
    let now = c.loop-node.distances.items in
    let i = c.loop-node.node in
    let hub = c.args.hub in
    let inv = c.loop-node.invariant in
    let home = narrow c.index-home.result.now in
    let below : i < length now = omega arith in
    let some : hub < length now = omega arith in
    let range = (inv.shorter []).range in
    let first = range hub some in
    let here = range i below in
    let far = far_is in
    let read = read_narrow home (omega (arith, ints), omega (arith, ints)) in
    let there_is : c.index.result.now ≡ value_at now i = c.index.ensures ∙ get_or_default now i c.index.result.now (pos 0) below in
    let read' = read_narrow c.index.result.now (omega (arith, ints), omega (arith, ints)) in
    elim c.if-index-home.branch [
      | then-index-home w ↦
          let more : value_at now hub <ℤ value_at now i = omega (arith, ints) in
          rw w.distances-is (rw (← inv.home) (record {
            count = length-set now i (value_at now hub) ∙ inv.count;
            home = home-same now hub i below range some more;
            below = λ k h.
                let most = home-next now hub i below range some more (λ j g. let b = inv.below j g in omega (arith, ints)) k h in
                omega (arith, ints);
            shorter = λ gaps. shorter-on hub gaps c.args.distances.now.items now _ (inv.shorter gaps) (home-shorter now hub i below range some more gaps);
          }))
      | else-index-home w ↦
          rw w.distances-is (record {
            count = inv.count;
            home = inv.home;
            below = below_more (λ k. value_at now k ≤ℤ home) i inv.below (omega (arith, ints));
            shorter = inv.shorter;
          })
    ]
