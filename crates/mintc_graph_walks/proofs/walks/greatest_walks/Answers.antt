use Rattle.std.proofs.Common.{length, ◌∙◌, refl, sym, arith}
use Rattle.mintc_graph_walks.specs.declared.network.TheConstants.{NONE}
use Rattle.mintc_graph_walks.proofs.Filling.{get_or-filled}
use Rattle.mintc_graph_walks.proofs.Rounds.{AreParents-tended, AreBounded-in_round, AreBounded-after_pass, IsRound-none, IsRound-more}
use Rattle.mintc_graph_walks.proofs.Answering.{HasGreatest-from_still}
use Rattle.mintc_graph_walks.proofs.Closing.{HasChain-from_loop}
use Rattle.mintc_graph_walks.proofs.walks.greatest_walks.Goals as goal

pub loop-round-init : goal.loop-round-init
loop-round-init g c =
    let none = get_or-filled c.args.before.now c.fill.new.self NONE (c.fill.ensures.after (λ y e. e)) in (
      IsRound-none (g.N.Network.arcs c.args.net.now) c.args.values.now c.fill.new.self _ c.relax_all.new.values c.relax_all.new.before (λ v h. none v (omega arith)) c.requires.starts (omega arith) c.relax_all.ensures,
      omega arith,
      refl,
    )

pub returns-in_default-clause-answer : goal.returns-in_default-clause-answer
returns-in_default-clause-answer g c =
    HasGreatest-from_still (g.N.Network.arcs c.args.net.now) c.args.values.now c.loop-round.values c.loop-round.before c.pass.new.values c.pass.new.before c.loop-round.round c.in_default.ensures c.loop-round.invariant.0 (c.loop-round.auto.values ∙ c.relax_all.auto.values) (λ e h. (c.requires.arcs e h).1)

pub returns-in-Some-find_ring-clause-answer : goal.returns-in-Some-find_ring-clause-answer
returns-in-Some-find_ring-clause-answer g c =
    let now = c.pass.ensures.relaxed.tended c.args.values.now (sym (c.loop-round.auto.values ∙ c.relax_all.auto.values)) c.loop-round.invariant.0.tended in
    HasChain-from_loop (g.N.Network.arcs c.args.net.now) c.args.values.now c.pass.new.values c.pass.new.before (omega arith) (omega (arith, c.requires.few)) now.0 now.1 c.in-Some-find_ring.ring.node c.collect.new.chain c.in-Some-find_ring.ring.len (omega (arith, c.in-Some-find_ring.ensures.ring.fits)) c.collect.ensures

pub loop-round-preserved : goal.loop-round-preserved
loop-round-preserved g c =
    let low = AreBounded-in_round (g.N.Network.arcs c.args.net.now) c.args.values.now c.loop-round.round c.loop-round.values c.loop-round.before c.loop-round.invariant.0 (omega arith) in (
      IsRound-more (g.N.Network.arcs c.args.net.now) c.args.values.now c.loop-round.values c.loop-round.before c.pass.new.values c.pass.new.before c.in-Some.raised c.loop-round.round c.in-Some.ensures c.loop-round.invariant.0 (c.loop-round.auto.values ∙ c.relax_all.auto.values)
          (length c.list_tree.new.list) c.relax_all-in-loop-round.new.values c.relax_all-in-loop-round.new.before c.relax_all-in-loop-round.ensures (omega arith)
          c.in_default-find_ring.ensures.none (omega arith) (omega arith) c.requires.few low,
      omega arith,
      c.loop-round.invariant.2,
    )

pub relax_all-requires-in-loop-round-clause-bounded : goal.relax_all-requires-in-loop-round-clause-bounded
relax_all-requires-in-loop-round-clause-bounded g c =
    AreBounded-after_pass (g.N.Network.arcs c.args.net.now) c.args.values.now c.loop-round.round c.loop-round.values c.loop-round.before c.pass.new.values c.pass.new.before c.pass.result c.loop-round.invariant.0 (omega arith) c.requires.few c.pass.ensures

pub find_ring-requires-clause-parents : goal.find_ring-requires-clause-parents
find_ring-requires-clause-parents g c =
    AreParents-tended (g.N.Network.arcs c.args.net.now) c.args.values.now c.pass.new.values c.pass.new.before (omega arith) (c.pass.ensures.relaxed.tended c.args.values.now (sym (c.loop-round.auto.values ∙ c.relax_all.auto.values)) c.loop-round.invariant.0.tended)

pub collect-requires-clause-parents : goal.collect-requires-clause-parents
collect-requires-clause-parents g c =
    AreParents-tended (g.N.Network.arcs c.args.net.now) c.args.values.now c.pass.new.values c.pass.new.before (omega arith) (c.pass.ensures.relaxed.tended c.args.values.now (sym (c.loop-round.auto.values ∙ c.relax_all.auto.values)) c.loop-round.invariant.0.tended)
