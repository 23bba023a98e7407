use Rattle.std.proofs.Common.{◌<◌, length, arith}
use Rattle.mintc_graph_walks.proofs.Relaxing.{HasRelaxed-by_relax}
use Rattle.mintc_graph_walks.proofs.rise.relax_numbered.Goals as goal

pub returns-then-number-len : goal.returns-then-number-len
returns-then-number-len g c =
    let arcs = g.N.Network.arcs c.args.net.now in
    let e = c.args.number in
    let below : e < length arcs = omega arith in
    let o = c.requires.arcs e below in
    HasRelaxed-by_relax arcs c.args.values.now c.args.before.now e c.requires.same below c.requires.few o.0 o.1 o.2
    c.arc-arc.result c.relax.new.values c.relax.new.before c.relax.result c.arc-arc.ensures c.relax.ensures.reached c.relax.ensures.more c.relax.ensures.values c.relax.ensures.before c.relax.ensures.values_stay c.relax.ensures.before_stays
