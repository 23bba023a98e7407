use Rattle.std.proofs.lemmas.Result.{err_from_is_err_and}
use Rattle.mintc_timing.specs.Limits.{IsWithinLimits}
use Rattle.mintcx_edges.specs.EdgeFiles.{description, AreReadApart, IsEdgeDesignOver, IsEdgeRefusalOver, of_delays, of_cells, of_clock}
use Rattle.mintcx_edges.specs.Seen.{IsReadDesign, IsReadRefusal}
use Rattle.mintc_build.proofs.SharedStopLaws.{StopsAt-mono, if_ok, if_err}
use Rattle.mintcx_edges.proofs.StopLaws.{over_design, over_refusal, read_within}
use Rattle.mintcx_edges.proofs.files.from_edge_files.Goals as goal

pub returns-in_err-delays-clause-stop : goal.returns-in_err-delays-clause-stop
returns-in_err-delays-clause-stop c =
    let p = err_from_is_err_and c.from_residual-in_err-delays.result c.from_residual-in_err-delays.ensures.1 in
    rw (p.1, p.2) (StopsAt-mono c.in_err-delays.field-0.0 (λ r h. of_delays c.in_ok-netlist.netlist c.in_ok-netlist.ensures.value h) c.in_err-delays.ensures)

pub returns-in_err-described-clause-stop : goal.returns-in_err-described-clause-stop
returns-in_err-described-clause-stop c =
    let p = err_from_is_err_and c.from_residual-in_err-described.result c.from_residual-in_err-described.ensures.1 in
    rw (p.1, p.2) (StopsAt-mono c.in_err-described.field-0.0
    (λ r h. of_cells c.in_ok-netlist.netlist c.in_ok-delays.delays.items c.in_ok-netlist.ensures.value c.in_ok-delays.ensures h) c.in_err-described.ensures.stop)

pub returns-in_err-clock-clause-stop : goal.returns-in_err-clock-clause-stop
returns-in_err-clock-clause-stop c =
    let p = err_from_is_err_and c.from_residual-in_err-clock.result c.from_residual-in_err-clock.ensures.1 in
    rw (p.1, p.2) (StopsAt-mono c.in_err-clock.field-0.0
    (λ r h. of_clock c.in_ok-netlist.netlist c.in_ok-delays.delays.items c.in_ok-described.described.cells c.in_ok-netlist.ensures.value c.in_ok-delays.ensures c.in_ok-described.ensures.cells h) c.in_err-clock.ensures)

pub returns-clause-value : goal.returns-clause-value
returns-clause-value c =
    let v = c.args.netlist.now in
    let d = c.args.delays.now in
    let k = c.args.clock.now in
    let netlist = c.in_ok-netlist.netlist in
    let delays = c.in_ok-delays.delays.items in
    let cells = c.in_ok-described.described.cells in
    let clock = c.in_ok-clock.clock in
    let read : AreReadApart v d (description c.args.cells.now).cells k netlist delays cells clock
    = record { netlist_read = c.in_ok-netlist.ensures.value; delays_read = c.in_ok-delays.ensures; cells_read = c.in_ok-described.ensures.cells; clock_read = c.in_ok-clock.ensures } in
    if_ok (IsReadDesign c.args.limits.now netlist cells c.in_ok-described.described.senses clock delays) (IsEdgeDesignOver c.args.limits.now v d (description c.args.cells.now) k)
    (IsReadRefusal c.args.limits.now netlist cells c.in_ok-described.described.senses clock delays) c.design_of.result
    (over_design c.args.limits.now v d (description c.args.cells.now) k netlist delays cells clock read c.in_ok-described.described.senses c.in_ok-described.ensures.senses) c.design_of.ensures

pub returns-clause-within : goal.returns-clause-within
returns-clause-within c =
    let netlist = c.in_ok-netlist.netlist in
    let delays = c.in_ok-delays.delays.items in
    let cells = c.in_ok-described.described.cells in
    let clock = c.in_ok-clock.clock in
    if_ok (IsReadDesign c.args.limits.now netlist cells c.in_ok-described.described.senses clock delays) (IsWithinLimits c.args.limits.now)
    (IsReadRefusal c.args.limits.now netlist cells c.in_ok-described.described.senses clock delays) c.design_of.result
    (read_within c.unrefused_are_within.ensures c.args.limits.now netlist cells c.in_ok-described.described.senses clock delays) c.design_of.ensures

pub returns-clause-stop : goal.returns-clause-stop
returns-clause-stop c =
    let v = c.args.netlist.now in
    let d = c.args.delays.now in
    let k = c.args.clock.now in
    let netlist = c.in_ok-netlist.netlist in
    let delays = c.in_ok-delays.delays.items in
    let cells = c.in_ok-described.described.cells in
    let clock = c.in_ok-clock.clock in
    let read : AreReadApart v d (description c.args.cells.now).cells k netlist delays cells clock
    = record { netlist_read = c.in_ok-netlist.ensures.value; delays_read = c.in_ok-delays.ensures; cells_read = c.in_ok-described.ensures.cells; clock_read = c.in_ok-clock.ensures } in
    if_err (IsReadDesign c.args.limits.now netlist cells c.in_ok-described.described.senses clock delays)
    (IsReadRefusal c.args.limits.now netlist cells c.in_ok-described.described.senses clock delays) (IsEdgeRefusalOver c.args.limits.now v d (description c.args.cells.now) k) c.design_of.result
    (over_refusal c.args.limits.now v d (description c.args.cells.now) k netlist delays cells clock read c.in_ok-described.described.senses c.in_ok-described.ensures.senses) c.design_of.ensures
