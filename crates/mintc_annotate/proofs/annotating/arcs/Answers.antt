use Rattle.std.proofs.Common.{◌≡◌, ◌∙◌, ◌+◌, ℕ, length, ap, arith}
use Rattle.mintc_annotate_delays.specs.Ranges.{look}
use Rattle.mintc_annotate.specs.Phases.{storage}
use Rattle.mintc_annotate.proofs.BuildLaws.{arcs_joined}
use Rattle.mintc_annotate.proofs.annotating.arcs.Goals as goal

pub returns : goal.returns
returns c = λ clock are.
    let count : ℕ = length c.items.result.now in
    let stored : count ≡ length (storage c.args.hierarchy.now c.args.cells.now) = ap length c.items.ensures ∙ c.requires.stored in
    let made = arcs_joined c.args.hierarchy.now c.args.cells.now (look c.args.gathered.now.ranges) count (count + c.len.result + c.len-2.result) (count + c.len.result) c.items-2.result.now clock.inputs clock.outputs c.args.bits.now.inputs.items c.args.bits.now.outputs.items
    c.push_joins.new.found.items c.push_leaves.new.found.items c.push_inputs.new.found.items c.push_outputs.new.found.items stored (omega (arith, c.len.ensures, c.len-2.ensures)) (omega (arith, c.len.ensures)) c.items-2.ensures
    (rw c.new-found.ensures.items at c.in_ok-push_joins.ensures) c.in_ok-push_leaves.ensures (rw c.deref.ensures.value at (c.in_ok-push_inputs.ensures clock.inputs)) (rw c.deref-2.ensures.value at (c.in_ok-push_outputs.ensures clock.outputs)) in
    rw (are.inputs.same, are.outputs.same) at made
