use Rattle.std.proofs.lemmas.Grind.{common_steps}
use Rattle.std.proofs.Common.{arith}
use Rattle.std.proofs.lemmas.Int.{ints}
use Rattle.mintc_ratio.specs.Chains.{links_at}
use Rattle.mintc_ratio.specs.Climbing.{grid_of}
use Rattle.mintc_ratio.proofs.GridLaws.{grid_point, top_small, grid_some}
use Rattle.mintc_ratio.proofs.SharedSumsLaws.{few_links}
use Rattle.mintc_ratio.proofs.TurnLaws.{forbids-takes}
use Rattle.mintc_ratio.proofs.turns.test_midpoint.Goals as goal

pub test_at-requires-clause-num : goal.test_at-requires-clause-num
test_at-requires-clause-num g c =
    let few = c.nodes.ensures.kept.nodes.1 in
    let top = top_small c.args.links.now.nodes few in
    let point = grid_point c.nodes.result c.args.links.now.nodes c.args.middle c.grid_of.result c.new-at.result c.nodes.ensures.value c.grid_of.ensures few c.requires.low c.requires.high c.new-at.ensures in
    let high = c.requires.high in
    rw point (omega (arith, ints))

pub turn_of-requires-clause-low : goal.turn_of-requires-clause-low
turn_of-requires-clause-low g c =
    let few = c.nodes.ensures.kept.nodes.1 in
    let some = grid_some c.args.links.now.nodes (omega (arith, c.nodes.ensures.kept.nodes.0)) in
    let point = grid_point c.nodes.result c.args.links.now.nodes c.args.middle c.grid_of.result c.new-at.result c.nodes.ensures.value c.grid_of.ensures few c.requires.low c.requires.high c.new-at.ensures in
    forbids-takes (links_at c.args.links.now.links c.test_at.new.room.chain) c.args.middle (grid_of c.args.links.now.nodes) c.requires.low (omega (arith, ints)) (rw point at c.in-Chain.ensures.tested.1)

pub returns-in-Values-clause-turn : goal.returns-in-Values-clause-turn
returns-in-Values-clause-turn g c =
    let few = c.nodes.ensures.kept.nodes.1 in
    let point = grid_point c.nodes.result c.args.links.now.nodes c.args.middle c.grid_of.result c.new-at.result c.nodes.ensures.value c.grid_of.ensures few c.requires.low c.requires.high c.new-at.ensures in
    let tested = rw point at c.in-Values.ensures.tested in
    (tested.1, tested.2 (few_links c.args.links.now.nodes c.args.links.now.links c.nodes.ensures.kept c.args.room.now.chain c.requires.held.chain))

pub test_at-requires-clause-den : goal.test_at-requires-clause-den
test_at-requires-clause-den c = grind (arith, common_steps)
