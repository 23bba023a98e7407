use Rattle.std.proofs.Common.{◌≡◌, get_or, ap, ◌∙◌, arith}
use Rattle.mintc_graph_walks.specs.declared.network.Arc.{Arc}
use Rattle.mintc_graph_walks.proofs.Filling.{get_or-filled}
use Rattle.mintc_graph_walks.proofs.Marking.{IsMarked-none, IsMarked-more, IsRing-at_end}
use Rattle.mintc_graph_walks.proofs.chains.mark.Goals as goal

pub loop-step-init : goal.loop-step-init
loop-step-init g c =
    IsMarked-none (g.N.Network.arcs c.args.net.now) c.args.before.now c.args.last c.fill.new.self c.requires.last (c.fill.auto.self ∙ c.requires.same) (get_or-filled c.args.marks.now c.fill.new.self 0 (c.fill.ensures.after (λ y e. e)))

pub loop-step-preserved : goal.loop-step-preserved
loop-step-preserved g c =
    let z : get_or c.loop-step.marks c.loop-step.node 0 ≡ 0 = omega arith in
    IsMarked-more (g.N.Network.arcs c.args.net.now) c.args.before.now c.args.last c.loop-step.step c.loop-step.marks c.loop-step.node c.loop-step.invariant (c.loop-step.auto.marks ∙ c.fill.auto.self ∙ c.requires.same)
    c.arc-node.result.from c.requires.parents z c.if-number.false (ap (λ (a : Arc). a.from) c.arc-node.ensures)

pub returns-clause-ring : goal.returns-clause-ring
returns-clause-ring g c =
    IsRing-at_end (g.N.Network.arcs c.args.net.now) c.args.before.now c.args.last c.loop-step.step c.loop-step.marks c.loop-step.node c.loop-step.invariant (c.loop-step.auto.marks ∙ c.fill.auto.self ∙ c.requires.same) (omega arith)
