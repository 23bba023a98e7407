use Rattle.std.proofs.lemmas.Result.{on_ok_weaker}
use Rattle.mintc_senses.specs.Senses.{sense_at}
use Rattle.mintc_edges.specs.Kept.{gate_arc_kept}
use Rattle.mintc_edges.proofs.ListLaws.{four_pushed}
use Rattle.mintc_edges.proofs.arcs.push_transitions.Goals as goal

pub returns : goal.returns
returns c =
    on_ok_weaker c.push_transition-4.result (λ e. four_pushed (gate_arc_kept c.args.apart.now.told.now c.args.gate c.args.default c.args.pins.input c.args.pins.output) (sense_at c.args.apart.now.senses.now c.args.gate.cell c.args.pins.input c.args.pins.output)
    c.args.found.now.items c.push_transition.new.found.items c.push_transition-2.new.found.items c.push_transition-3.new.found.items c.push_transition-4.new.found.items
    c.in_ok-push_transition.ensures c.in_ok-push_transition-2.ensures c.in_ok-push_transition-3.ensures e) c.push_transition-4.ensures
