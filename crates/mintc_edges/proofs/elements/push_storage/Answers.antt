use Rattle.std.proofs.Common.{◌<◌, ◌≤◌, length, ap, arith}
use Rattle.mintc_edges.specs.Whole.{leaf_elements_kept}
use Rattle.mintc_edges.proofs.StoredLaws.{numbered, storage-pushed, storage-whole}
use Rattle.mintc_edges.proofs.elements.push_storage.Goals as goal

pub loop-leaf-preserved : goal.loop-leaf-preserved
loop-leaf-preserved c =
    let within : c.loop-leaf.leaf < length c.args.apart.now.hierarchy.now.leaves = omega (arith, c.loop-leaf-test.true, ap length c.items.ensures) in (
      storage-pushed c.args.apart.now.hierarchy.now c.args.apart.now.cells.now c.args.phases.now c.requires.phases (leaf_elements_kept c.args.apart.now.told.now c.args.apart.now.senses.now c.args.apart.now.hierarchy.now c.args.apart.now.cells.now)
          c.args.found.now.items c.loop-leaf.found.items c.push_leaf.new.found.items c.loop-leaf.leaf c.loop-leaf.number within c.loop-leaf.invariant.1 c.loop-leaf.invariant.0 c.in_ok-push_leaf.ensures,
      c.next_element-number.ensures.value,
      c.next_element-number.ensures.small,
    )

pub returns : goal.returns
returns c =
    let past : length c.args.apart.now.hierarchy.now.leaves ≤ c.loop-leaf.leaf = omega (arith, c.loop-leaf-test.false, ap length c.items.ensures) in
    storage-whole c.args.apart.now.hierarchy.now c.args.apart.now.cells.now c.args.phases.now c.requires.phases (leaf_elements_kept c.args.apart.now.told.now c.args.apart.now.senses.now c.args.apart.now.hierarchy.now c.args.apart.now.cells.now)
    c.args.found.now.items c.loop-leaf.found.items c.loop-leaf.leaf past c.loop-leaf.invariant.0

pub push_leaf-requires-clause-phase : goal.push_leaf-requires-clause-phase
push_leaf-requires-clause-phase c = λ is.
    let within : c.loop-leaf.leaf < length c.args.apart.now.hierarchy.now.leaves = omega (arith, c.loop-leaf-test.true, ap length c.items.ensures) in
    let number = numbered c.args.apart.now.hierarchy.now c.args.apart.now.cells.now c.loop-leaf.leaf within is in
    omega (arith, c.loop-leaf.invariant.1, number, c.requires.phases)
