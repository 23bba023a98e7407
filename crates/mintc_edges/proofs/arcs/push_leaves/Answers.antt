use Rattle.std.proofs.Common.{◌<◌, ◌++◌, ℕ, length, ap, ◌∙◌, arith}
use Rattle.mintc_annotate_resolve.specs.Pins.{leaf_cell}
use Rattle.mintc_edges.specs.Kept.{leaf_arcs_kept, leaf_kept, leaf_arcs_in}
use Rattle.mintc_edges.proofs.ListLaws.{flat_pushed}
use Rattle.mintc_edges.proofs.StoredLaws.{numbered}
use Rattle.mintc_edges.proofs.arcs.push_leaves.Goals as goal

pub push_leaf-requires-clause-element : goal.push_leaf-requires-clause-element
push_leaf-requires-clause-element c = λ is.
    let within : c.loop-leaf.leaf < length c.args.apart.now.hierarchy.now.leaves = omega (arith, c.loop-leaf-test.true, ap length c.items.ensures) in
    let number = numbered c.args.apart.now.hierarchy.now c.args.apart.now.cells.now c.loop-leaf.leaf within is in
    omega (arith, c.loop-leaf.invariant.1, number, c.requires.few)

pub loop-leaf-preserved : goal.loop-leaf-preserved
loop-leaf-preserved c =
    let told = c.args.apart.now.told.now in
    let senses = c.args.apart.now.senses.now in
    let h = c.args.apart.now.hierarchy.now in
    let cells = c.args.apart.now.cells.now in
    let n = c.args.elements in
    let l = c.loop-leaf.leaf in (
      flat_pushed (leaf_arcs_in told senses h cells n) c.args.found.now.items c.loop-leaf.found.items c.push_leaf.new.found.items l c.loop-leaf.invariant.0
          (c.in_ok-push_leaf.ensures ∙ ap (λ (k : ℕ). c.loop-leaf.found.items ++ leaf_arcs_kept told senses (leaf_kept h cells n l) k (leaf_cell h cells l)) c.loop-leaf.invariant.1),
      c.next_element-element.ensures.value,
      c.next_element-element.ensures.small,
    )
