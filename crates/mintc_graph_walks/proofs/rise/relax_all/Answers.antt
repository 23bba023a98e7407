use Rattle.std.proofs.Common.{◌*◌, ◌+◌, ◌^◌, arith}
use Rattle.mintc_graph_walks.proofs.Relaxing.{AreBounded-weaker, HasRelaxed-then}
use Rattle.mintc_graph_walks.proofs.rise.relax_all.Goals as goal

pub relax_numbered-requires-clause-bounded : goal.relax_numbered-requires-clause-bounded
relax_numbered-requires-clause-bounded g c =
    AreBounded-weaker (2 ^ 125 + c.loop-number.number-index * 2 ^ 80) (2 ^ 126) c.loop-number.values (omega arith) (c.loop-number.invariant.bounded (2 ^ 125) c.requires.bounded)

pub loop-number-preserved : goal.loop-number-preserved
loop-number-preserved g c =
    HasRelaxed-then (g.N.Network.arcs c.args.net.now) c.loop-number.number-index 1 c.args.values.now c.args.before.now c.loop-number.values c.loop-number.before c.relax_numbered.new.values c.relax_numbered.new.before
    c.loop-number.auto.values c.loop-number.invariant c.relax_numbered.ensures
