use Rattle.std.proofs.Common.{◌∙◌}
use Rattle.std.proofs.lemmas.Result.{err_from_is_err_and}
use Rattle.mintc_annotate.proofs.SharedTraceLaws.{stop_of_ports, traced_of_spots}
use Rattle.mintc_annotate.proofs.tracing.trace_in_shape.Goals as goal

pub returns-in_err-spots : goal.returns-in_err-spots
returns-in_err-spots c =
    let p = err_from_is_err_and c.from_residual-in_err-spots.result c.from_residual-in_err-spots.ensures.1 in
    rw (p.1, p.2) (stop_of_ports c.args.hierarchy.now c.args.cells.now c.args.clock.now c.deref.result.now c.items.result.now c.items-2.result.now c.in_err-spots.field-0.0 (c.deref.ensures.value ∙ c.in_ok-names.ensures) c.items.ensures c.items-2.ensures c.in_err-spots.ensures.value)

pub returns : goal.returns
returns c =
    traced_of_spots c.args.hierarchy.now c.args.cells.now c.args.clock.now c.deref.result.now c.items.result.now c.items-2.result.now c.deref-2.result.now c.trace_all.result (c.deref.ensures.value ∙ c.in_ok-names.ensures) c.items.ensures c.items-2.ensures
    c.in_ok-spots.ensures.value.0 (c.deref-2.ensures.value ∙ c.in_ok-spots.ensures.value.1) c.trace_all.ensures
