use Rattle.std.proofs.lemmas.Result.{on_ok_weaker}
use Rattle.mintc_senses.specs.Senses.{sense_at}
use Rattle.mintc_edges.specs.Kept.{output_arc_kept}
use Rattle.mintc_edges.proofs.ListLaws.{four_pushed}
use Rattle.mintc_edges.proofs.arcs.push_output.Goals as goal

pub returns : goal.returns
returns c =
    on_ok_weaker c.push_output_at-4.result (λ e. four_pushed (output_arc_kept c.args.stored c.args.element c.args.output) (sense_at c.args.apart.now.senses.now c.args.stored.cell 0 c.args.output)
    c.args.found.now.items c.push_output_at.new.found.items c.push_output_at-2.new.found.items c.push_output_at-3.new.found.items c.push_output_at-4.new.found.items
    c.in_ok-push_output_at.ensures c.in_ok-push_output_at-2.ensures c.in_ok-push_output_at-3.ensures e) c.push_output_at-4.ensures
