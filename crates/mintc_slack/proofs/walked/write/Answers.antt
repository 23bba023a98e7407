use Rattle.std.proofs.lemmas.Grind.{common_steps}
use Rattle.std.proofs.Common.{◌≡◌, ◌<◌, ◌-ℤ◌, ℤ, List, length, arith, ap, ◌∙◌}
use Rattle.std.proofs.lemmas.Int.{ints}
use Rattle.std.proofs.Math.ListN.{length-set}
use Rattle.mintc_constraints.specs.Rooms.{Space}
use Rattle.mintc_graph_walks.specs.Bounds.{IsWithin}
use Rattle.mintc_graph_walks.specs.Walks.{value_at}
use Rattle.mintc_slack.proofs.GapLaws.{far_is, room-kept, written}
use Rattle.mintc_slack.proofs.SizeLaws.{larger, less-read, read_narrow, read_wide}
use Rattle.mintc_slack.proofs.walked.write.Goals as goal

pub loop-node-preserved : goal.loop-node-preserved
loop-node-preserved c =
    let i = c.loop-node.node in
    let below : i < length c.args.distances.now = (let test = c.loop-node-test.true in omega arith) in
    let range = c.requires.range i below in
    let far = far_is in
    let from_is : c.from.result ≡ value_at c.args.distances.now i = c.from.ensures ∙ read_narrow (value_at c.args.distances.now i) (omega (arith, ints), omega (arith, ints)) in
    let a : IsWithin 100000000000000000 c.from.result = (omega (arith, ints), omega (arith, ints)) in
    let is = read_wide c.minus_both-value.result (larger _ _ _ (omega arith) c.minus_both-value.ensures.small) ∙ c.minus_both-value.ensures.value ∙ less-read (value_at c.args.potentials.now i) (value_at c.args.potentials.now c.args.from) c.from.result
    (c.requires.small i (let n = c.requires.count in omega arith)) (c.requires.small c.args.from (let n = c.requires.count in let f = c.requires.inside in omega arith)) a in
    let values_are = ap (λ (r : Space). r.values) c.set_values.ensures in
    let count = c.loop-node.invariant.1 in (
      room-kept c.args.room.now c.loop-node.room c.set_values.new.self _ c.loop-node.invariant.0 c.set_values.ensures,
      ap length values_are ∙ length-set c.loop-node.room.values i _ ∙ count,
      λ k h. ap (λ (v : List ℤ). value_at v k) values_are
          ∙ written (λ n. value_at c.args.potentials.now n -ℤ value_at c.args.potentials.now c.args.from -ℤ value_at c.args.distances.now n) c.loop-node.room.values i _
          (omega arith) (is ∙ ap (λ (x : ℤ). value_at c.args.potentials.now i -ℤ value_at c.args.potentials.now c.args.from -ℤ x) from_is) c.loop-node.invariant.2 k h,
    )

pub loop-node-init : goal.loop-node-init
loop-node-init c = grind (arith, common_steps)
