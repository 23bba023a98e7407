use Rattle.std.proofs.Common.{◌+◌, ℕ, arith}
use Rattle.mintc_edges.proofs.ArcLaws.{arcs-joined}
use Rattle.mintc_edges.proofs.designing.arcs.Goals as goal

pub returns : goal.returns
returns c = λ clock are.
    let s : ℕ = c.args.stored in
    let made = arcs-joined c.args.apart.now.told.now c.args.apart.now.senses.now c.args.apart.now.hierarchy.now c.args.apart.now.cells.now s (s + c.len.result + c.len-2.result) (s + c.len.result) c.items-joins.result.now clock.inputs clock.outputs c.args.bits.now.inputs.items c.args.bits.now.outputs.items
    c.push_joins.new.found.items c.push_leaves.new.found.items c.push_inputs.new.found.items c.push_outputs.new.found.items c.requires.stored (omega (arith, c.len.ensures, c.len-2.ensures)) (omega (arith, c.len.ensures)) c.items-joins.ensures
    (rw c.new-found.ensures.items at c.in_ok-push_joins.ensures) c.in_ok-push_leaves.ensures (rw c.deref.ensures.value at (c.in_ok-push_inputs.ensures clock.inputs)) (rw c.deref-2.ensures.value at (c.in_ok-push_outputs.ensures clock.outputs)) in
    rw (are.inputs.same, are.outputs.same) at made
