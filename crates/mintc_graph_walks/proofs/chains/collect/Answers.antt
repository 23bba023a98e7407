use Rattle.std.proofs.Common.{ap, ◌∙◌, arith}
use Rattle.mintc_graph_walks.specs.declared.network.Arc.{Arc}
use Rattle.mintc_graph_walks.proofs.Collecting.{IsCollected-more, IsLoop-from_collected}
use Rattle.mintc_graph_walks.proofs.chains.collect.Goals as goal

pub loop-done-preserved : goal.loop-done-preserved
loop-done-preserved g c =
    IsCollected-more (g.N.Network.arcs c.args.net.now) c.args.before.now c.args.marks.now c.args.ring.node c.args.ring.len c.loop-done.done c.loop-done.chain c.loop-done.node c.loop-done.invariant c.requires.ring (c.loop-done.auto.chain ∙ c.requires.same)
    c.arc-node.result.from c.requires.parents (omega arith) (ap (λ (a : Arc). a.from) c.arc-node.ensures)

pub returns : goal.returns
returns g c =
    IsLoop-from_collected (g.N.Network.arcs c.args.net.now) c.args.before.now c.args.marks.now c.args.ring.node c.args.ring.len c.loop-done.done c.loop-done.chain c.loop-done.node c.loop-done.invariant c.requires.ring (c.loop-done.auto.chain ∙ c.requires.same) (omega arith)
