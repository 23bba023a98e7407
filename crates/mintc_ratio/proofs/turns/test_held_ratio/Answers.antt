use Rattle.mintc_ratio.specs.Chains.{links_at}
use Rattle.mintc_ratio.proofs.TurnLaws.{forbids-takes, jump_turn, least_held}
use Rattle.mintc_ratio.proofs.turns.test_held_ratio.Goals as goal

pub turn_of-requires-clause-low : goal.turn_of-requires-clause-low
turn_of-requires-clause-low g c =
    let cycle = c.ratio_of-cycle.ensures.cycle in
    forbids-takes (links_at c.args.links.now.links c.test_at.new.room.chain) c.ratio_of-cycle.result.num c.ratio_of-cycle.result.den cycle.low cycle.fraction c.in-Chain.ensures.tested.1

pub returns-in-Values-clause-turn : goal.returns-in-Values-clause-turn
returns-in-Values-clause-turn g c =
    let tested = c.in-Values.ensures.tested in
    least_held c.args.links.now c.args.held c.ratio_of-cycle.result c.args.room.now c.test_at.new.room c.requires.kept c.requires.held
    c.ratio_of-cycle.ensures.cycle (c.ratio_of-cycle.ensures.small c.args.links.now.nodes c.requires.held.small.cycles c.requires.held.small.delay) c.ratio_of-cycle.ensures.value tested.0 tested.1 tested.2

pub returns-in-Chain-clause-turn : goal.returns-in-Chain-clause-turn
returns-in-Chain-clause-turn g c =
    jump_turn c.args.links.now c.args.held c.ratio_of-cycle.result c.test_at.new.room c.turn_of.result c.ratio_of-cycle.ensures.cycle.fraction c.requires.held.turns
    c.ratio_of-cycle.ensures.value c.in-Chain.ensures.tested.1 c.turn_of.ensures
