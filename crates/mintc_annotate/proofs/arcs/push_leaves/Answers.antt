use Rattle.std.proofs.Common.{◌<◌, length, ap, arith}
use Rattle.mintc_annotate_resolve.specs.Pins.{leaf_cell}
use Rattle.mintc_annotate_delays.specs.Ranges.{look}
use Rattle.mintc_annotate.specs.Made.{leaf_arcs}
use Rattle.mintc_annotate.proofs.BuildLaws.{flat_pushed}
use Rattle.mintc_annotate.proofs.PartLimits.{numbered}
use Rattle.mintc_annotate.proofs.arcs.push_leaves.Goals as goal

pub push_leaf-requires-clause-few : goal.push_leaf-requires-clause-few
push_leaf-requires-clause-few c = λ is.
    let within : c.loop-leaf.leaf < length c.args.timed.now.hierarchy.now.leaves = omega (arith, c.loop-leaf-test.true, ap length c.items.ensures) in
    let number = numbered c.args.timed.now.hierarchy.now c.args.timed.now.cells.now c.loop-leaf.leaf within is in
    omega (arith, c.loop-leaf.invariant.0, number, c.requires.few)

pub loop-leaf-preserved : goal.loop-leaf-preserved
loop-leaf-preserved c = (
  c.next_element-element.ensures.value,
  c.next_element-element.ensures.small,
  flat_pushed (λ k. leaf_arcs c.args.timed.now.hierarchy.now c.args.timed.now.cells.now (look c.args.timed.now.ranges.now) c.args.elements k (leaf_cell c.args.timed.now.hierarchy.now c.args.timed.now.cells.now k))
      c.args.found.now.items c.loop-leaf.found.items c.push_leaf.new.found.items c.loop-leaf.leaf c.loop-leaf.invariant.2 c.in_ok-push_leaf.ensures,
)
