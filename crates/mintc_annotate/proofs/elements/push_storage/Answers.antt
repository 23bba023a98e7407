use Rattle.std.proofs.Common.{◌<◌, ◌≤◌, length, ap, arith}
use Rattle.mintc_annotate_delays.specs.Ranges.{look}
use Rattle.mintc_annotate.proofs.BuildLaws.{front_count, front_shorter, stored_pushed, stored_whole}
use Rattle.mintc_annotate.proofs.elements.push_storage.Goals as goal

pub push_leaf-requires-clause-phase : goal.push_leaf-requires-clause-phase
push_leaf-requires-clause-phase c = λ is.
    let within : c.loop-leaf.leaf < length c.args.timed.now.hierarchy.now.leaves = omega (arith, c.loop-leaf-test.true, ap length c.items.ensures) in
    let count = front_count c.args.timed.now.hierarchy.now c.args.timed.now.cells.now (look c.args.timed.now.ranges.now) c.args.phases.now c.loop-leaf.found.items c.loop-leaf.leaf c.requires.phases c.loop-leaf.invariant in
    let short = front_shorter c.args.timed.now.hierarchy.now c.args.timed.now.cells.now c.loop-leaf.leaf within is in
    let less : length c.loop-leaf.found.items < length c.args.phases.now = omega (arith, count, short, c.requires.phases) in
    less

pub loop-leaf-preserved : goal.loop-leaf-preserved
loop-leaf-preserved c =
    let within : c.loop-leaf.leaf < length c.args.timed.now.hierarchy.now.leaves = omega (arith, c.loop-leaf-test.true, ap length c.items.ensures) in
    stored_pushed c.args.timed.now.hierarchy.now c.args.timed.now.cells.now (look c.args.timed.now.ranges.now) c.args.phases.now c.loop-leaf.found.items c.push_leaf.new.found.items c.loop-leaf.leaf within c.requires.phases c.loop-leaf.invariant c.in_ok-push_leaf.ensures

pub returns : goal.returns
returns c =
    let past : length c.args.timed.now.hierarchy.now.leaves ≤ c.loop-leaf.leaf = omega (arith, c.loop-leaf-test.false, ap length c.items.ensures) in
    stored_whole c.args.timed.now.hierarchy.now c.args.timed.now.cells.now (look c.args.timed.now.ranges.now) c.args.phases.now c.loop-leaf.found.items c.loop-leaf.leaf past c.loop-leaf.invariant
