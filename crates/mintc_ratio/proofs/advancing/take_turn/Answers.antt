use Rattle.std.proofs.Common.{arith}
use Rattle.std.proofs.lemmas.Int.{ints}
use Rattle.mintc_ratio.proofs.TurnedLaws.{range_of, read_low, read_high, read_middle, middle_low, middle_high, width_small, jumped_on, halved_on, freed_on}
use Rattle.mintc_ratio.proofs.advancing.take_turn.Goals as goal

pub width_of-width-requires-clause-from : goal.width_of-width-requires-clause-from
width_of-width-requires-clause-from g c =
    let s = c.requires.climbing in
    let floor = rw c.nodes-nodes.ensures.value at c.low_of-low.ensures in
    let r = range_of c.args.links.now c.nodes-nodes.ensures.kept s.0 c.args.begun c.args.room.now c.args.held c.args.high c.low_of-low.result s.1 c.args.steps.now s.2 floor in
    rw (read_low c.args.high c.low_of-low.result r) r.from

pub width_of-width-requires-clause-order : goal.width_of-width-requires-clause-order
width_of-width-requires-clause-order g c =
    let s = c.requires.climbing in
    let floor = rw c.nodes-nodes.ensures.value at c.low_of-low.ensures in
    let r = range_of c.args.links.now c.nodes-nodes.ensures.kept s.0 c.args.begun c.args.room.now c.args.held c.args.high c.low_of-low.result s.1 c.args.steps.now s.2 floor in
    rw (read_low c.args.high c.low_of-low.result r, read_high c.args.high c.low_of-low.result r) r.order

pub width_of-width-requires-clause-most : goal.width_of-width-requires-clause-most
width_of-width-requires-clause-most g c =
    let s = c.requires.climbing in
    let floor = rw c.nodes-nodes.ensures.value at c.low_of-low.ensures in
    let r = range_of c.args.links.now c.nodes-nodes.ensures.kept s.0 c.args.begun c.args.room.now c.args.held c.args.high c.low_of-low.result s.1 c.args.steps.now s.2 floor in
    rw (read_high c.args.high c.low_of-low.result r) r.most

pub may_jump-requires-clause-width : goal.may_jump-requires-clause-width
may_jump-requires-clause-width g c =
    let s = c.requires.climbing in
    let floor = rw c.nodes-nodes.ensures.value at c.low_of-low.ensures in
    let r = range_of c.args.links.now c.nodes-nodes.ensures.kept s.0 c.args.begun c.args.room.now c.args.held c.args.high c.low_of-low.result s.1 c.args.steps.now s.2 floor in
    let wide = rw (read_high c.args.high c.low_of-low.result r, read_low c.args.high c.low_of-low.result r) at c.width_of-width.ensures in
    let small = width_small c.args.high c.low_of-low.result c.width_of-width.result r wide in
    omega arith

pub middle_of-middle-requires-clause-from : goal.middle_of-middle-requires-clause-from
middle_of-middle-requires-clause-from g c =
    let s = c.requires.climbing in
    let floor = rw c.nodes-nodes.ensures.value at c.low_of-low.ensures in
    let r = range_of c.args.links.now c.nodes-nodes.ensures.kept s.0 c.args.begun c.args.room.now c.args.held c.args.high c.low_of-low.result s.1 c.args.steps.now s.2 floor in
    rw (read_low c.args.high c.low_of-low.result r) r.from

pub middle_of-middle-requires-clause-most : goal.middle_of-middle-requires-clause-most
middle_of-middle-requires-clause-most g c =
    let s = c.requires.climbing in
    let floor = rw c.nodes-nodes.ensures.value at c.low_of-low.ensures in
    let r = range_of c.args.links.now c.nodes-nodes.ensures.kept s.0 c.args.begun c.args.room.now c.args.held c.args.high c.low_of-low.result s.1 c.args.steps.now s.2 floor in
    let order = r.order in let most = r.most in
    rw (read_low c.args.high c.low_of-low.result r) (omega (arith, ints))

pub middle_of-middle-requires-clause-width : goal.middle_of-middle-requires-clause-width
middle_of-middle-requires-clause-width g c =
    let s = c.requires.climbing in
    let floor = rw c.nodes-nodes.ensures.value at c.low_of-low.ensures in
    let r = range_of c.args.links.now c.nodes-nodes.ensures.kept s.0 c.args.begun c.args.room.now c.args.held c.args.high c.low_of-low.result s.1 c.args.steps.now s.2 floor in
    let wide = rw (read_high c.args.high c.low_of-low.result r, read_low c.args.high c.low_of-low.result r) at c.width_of-width.ensures in
    width_small c.args.high c.low_of-low.result c.width_of-width.result r wide

pub test_midpoint-requires-clause-low : goal.test_midpoint-requires-clause-low
test_midpoint-requires-clause-low g c =
    let s = c.requires.climbing in
    let floor = rw c.nodes-nodes.ensures.value at c.low_of-low.ensures in
    let r = range_of c.args.links.now c.nodes-nodes.ensures.kept s.0 c.args.begun c.args.room.now c.args.held c.args.high c.low_of-low.result s.1 c.args.steps.now s.2 floor in
    let wide = rw (read_high c.args.high c.low_of-low.result r, read_low c.args.high c.low_of-low.result r) at c.width_of-width.ensures in
    let middle = rw (read_low c.args.high c.low_of-low.result r) at c.middle_of-middle.ensures in
    rw (read_middle c.args.high c.low_of-low.result c.middle_of-middle.result c.width_of-width.result r wide middle) (middle_low c.args.high c.low_of-low.result c.width_of-width.result r)

pub test_midpoint-requires-clause-high : goal.test_midpoint-requires-clause-high
test_midpoint-requires-clause-high g c =
    let s = c.requires.climbing in
    let floor = rw c.nodes-nodes.ensures.value at c.low_of-low.ensures in
    let r = range_of c.args.links.now c.nodes-nodes.ensures.kept s.0 c.args.begun c.args.room.now c.args.held c.args.high c.low_of-low.result s.1 c.args.steps.now s.2 floor in
    let wide = rw (read_high c.args.high c.low_of-low.result r, read_low c.args.high c.low_of-low.result r) at c.width_of-width.ensures in
    let middle = rw (read_low c.args.high c.low_of-low.result r) at c.middle_of-middle.ensures in
    let high = middle_high c.args.high c.low_of-low.result c.width_of-width.result r wide in
    let inside = s.2.inside in
    rw (read_middle c.args.high c.low_of-low.result c.middle_of-middle.result c.width_of-width.result r wide middle) (omega (arith, ints))

pub returns-in-Held-clause-advanced : goal.returns-in-Held-clause-advanced
returns-in-Held-clause-advanced g c =
    λ start halvings now.
    let s = c.requires.climbing in
    let floor = rw c.nodes-nodes.ensures.value at c.low_of-low.ensures in
    let r = range_of c.args.links.now c.nodes-nodes.ensures.kept s.0 c.args.begun c.args.room.now c.args.held c.args.high c.low_of-low.result s.1 c.args.steps.now s.2 floor in
    let wide = rw (read_high c.args.high c.low_of-low.result r, read_low c.args.high c.low_of-low.result r) at c.width_of-width.ensures in
    let may = rw c.nodes-nodes.ensures.value at c.if-may_jump.ensures.left in
    let turn = c.in-Held.ensures.turn in
    rw (read_high c.args.high c.low_of-low.result r)
    (jumped_on c.args.links.now c.nodes-nodes.ensures.kept start c.args.begun c.args.room.now c.args.held c.args.high c.low_of-low.result halvings c.args.steps.now c.width_of-width.result now floor wide
    c.test_held_ratio.new.room c.test_held_ratio.new.steps c.in-Held.ensures.cost c.in-Held.ensures.some c.in-Held.sums c.taken.result c.taken.ensures may turn.0 turn.1)

pub returns-in-Held-test_midpoint-clause-advanced : goal.returns-in-Held-test_midpoint-clause-advanced
returns-in-Held-test_midpoint-clause-advanced g c =
    λ start halvings now.
    let s = c.requires.climbing in
    let floor = rw c.nodes-nodes.ensures.value at c.low_of-low.ensures in
    let r = range_of c.args.links.now c.nodes-nodes.ensures.kept s.0 c.args.begun c.args.room.now c.args.held c.args.high c.low_of-low.result s.1 c.args.steps.now s.2 floor in
    let wide = rw (read_high c.args.high c.low_of-low.result r, read_low c.args.high c.low_of-low.result r) at c.width_of-width.ensures in
    let middle = rw (read_low c.args.high c.low_of-low.result r) at c.middle_of-middle.ensures in
    let turn = rw (read_middle c.args.high c.low_of-low.result c.middle_of-middle.result c.width_of-width.result r wide middle) at c.in-Held-test_midpoint.ensures.turn in
    rw (read_high c.args.high c.low_of-low.result r)
    (halved_on c.args.links.now c.nodes-nodes.ensures.kept start c.args.begun c.args.room.now c.args.held c.args.high c.low_of-low.result halvings c.args.steps.now c.width_of-width.result now floor wide
    c.test_midpoint.new.room c.test_midpoint.new.steps c.in-Held-test_midpoint.ensures.cost c.in-Held-test_midpoint.ensures.some c.in-Held-test_midpoint.sums c.if-may_jump.ensures.wide turn.0 turn.1)

pub returns-in-Free-test_midpoint-clause-advanced : goal.returns-in-Free-test_midpoint-clause-advanced
returns-in-Free-test_midpoint-clause-advanced g c =
    λ start halvings now.
    let s = c.requires.climbing in
    let floor = rw c.nodes-nodes.ensures.value at c.low_of-low.ensures in
    let r = range_of c.args.links.now c.nodes-nodes.ensures.kept s.0 c.args.begun c.args.room.now c.args.held c.args.high c.low_of-low.result s.1 c.args.steps.now s.2 floor in
    let wide = rw (read_high c.args.high c.low_of-low.result r, read_low c.args.high c.low_of-low.result r) at c.width_of-width.ensures in
    let middle = rw (read_low c.args.high c.low_of-low.result r) at c.middle_of-middle.ensures in
    let turn = rw (read_middle c.args.high c.low_of-low.result c.middle_of-middle.result c.width_of-width.result r wide middle) at c.in-Free-test_midpoint.ensures.turn in
    rw (read_middle c.args.high c.low_of-low.result c.middle_of-middle.result c.width_of-width.result r wide middle)
    (freed_on c.args.links.now c.nodes-nodes.ensures.kept start c.args.begun c.args.room.now c.args.held c.args.high c.low_of-low.result halvings c.args.steps.now c.width_of-width.result now floor wide
    c.test_midpoint.new.room c.test_midpoint.new.steps c.in-Free-test_midpoint.ensures.cost c.in-Free-test_midpoint.ensures.some c.if-may_jump.ensures.wide turn.0 turn.1)
