use Rattle.std.proofs.Common.{◌≡◌, ◌<◌, length, ◌∙◌, arith}
use Rattle.mintc_graph_walks.specs.Rises.{turn}
use Rattle.mintc_graph_walks.proofs.Passing.{HasTaken-none, HasPassed-taken, turn_below, kept_by_relax, raised_by_relax, value_in_range}
use Rattle.mintc_graph_walks.proofs.rise.pass.Goals as goal
use Rattle.mintc_graph_walks.proofs.rise.pass.Goals.{then-relax, else-relax}

pub loop-count-init : goal.loop-count-init
loop-count-init g c =
    HasTaken-none (g.N.Network.arcs c.args.net.now) (turn c.args.direction c.len-len.result) c.args.values.now c.args.before.now

pub relax-requires-clause-value : goal.relax-requires-clause-value
relax-requires-clause-value g c =
    let arcs = g.N.Network.arcs c.args.net.now in
    let e = c.turn-number.result in
    let inside = turn_below c.args.direction c.len-len.result c.loop-count.count (omega arith) in
    let below : e < length arcs = omega (arith, c.turn-number.ensures, c.len-len.ensures) in
    let within : c.loop-count.count < length arcs = omega (arith, c.len-len.ensures) in
    let o = c.requires.arcs e below in
    value_in_range arcs (turn c.args.direction c.len-len.result) c.loop-count.count e c.turn-number.ensures c.args.values.now c.args.before.now c.loop-count.values c.loop-count.before c.loop-count.raised c.loop-count.invariant within below c.requires.few c.requires.nodes c.loop-count.auto.values (c.loop-count.auto.before ∙ c.requires.same) c.requires.bounded o.0 o.1 o.2 c.arc-arc.result c.arc-arc.ensures

pub loop-count-preserved : goal.loop-count-preserved
loop-count-preserved g c =
    let arcs = g.N.Network.arcs c.args.net.now in
    let order = turn c.args.direction c.len-len.result in
    let i = c.loop-count.count in
    let e = c.turn-number.result in
    let inside = turn_below c.args.direction c.len-len.result i (omega arith) in
    let below : e < length arcs = omega (arith, c.turn-number.ensures, c.len-len.ensures) in
    let within : c.loop-count.count < length arcs = omega (arith, c.len-len.ensures) in
    let o = c.requires.arcs e below in
    elim c.if-relax.branch [
      | then-relax w ↦
          raised_by_relax arcs order i e c.turn-number.ensures c.args.values.now c.args.before.now c.loop-count.values c.loop-count.before c.loop-count.raised c.loop-count.invariant within below c.requires.few c.requires.nodes c.loop-count.auto.values (c.loop-count.auto.before ∙ c.requires.same) c.requires.bounded o.0 o.1 o.2
          c.arc-arc.result c.relax.new.values c.relax.new.before c.if-relax.raised c.relax.result c.arc-arc.ensures w.if-relax.true c.relax.ensures.reached c.relax.ensures.more c.relax.ensures.values c.relax.ensures.before w.raised-is
      | else-relax w ↦
          kept_by_relax arcs order i e c.turn-number.ensures c.args.values.now c.args.before.now c.loop-count.values c.loop-count.before c.loop-count.raised c.loop-count.invariant within below c.requires.few c.requires.nodes c.loop-count.auto.values (c.loop-count.auto.before ∙ c.requires.same) c.requires.bounded o.0 o.1 o.2
          c.arc-arc.result c.relax.new.values c.relax.new.before c.if-relax.raised c.relax.result c.arc-arc.ensures w.if-relax.false c.relax.ensures.met c.relax.ensures.values_stay c.relax.ensures.before_stays w.raised-is
    ]

pub returns : goal.returns
returns g c =
    let arcs = g.N.Network.arcs c.args.net.now in
    let all : c.loop-count.count ≡ length arcs = omega (arith, c.len-len.ensures) in
    HasPassed-taken arcs c.args.direction c.args.values.now c.args.before.now c.loop-count.values c.loop-count.before c.loop-count.raised (rw (c.len-len.ensures, all) at c.loop-count.invariant)
