use Rattle.std.proofs.lemmas.Result.{err_from_is_err_and}
use Rattle.mintcx_edges.specs.EdgeFiles.{library_with, AreReadApart, of_delays, of_clock}
use Rattle.mintcx_edges.proofs.StopLaws.{halted, unfitted, over_design, over_refusal, read_within}
use Rattle.mintcx_edges.proofs.files.from_edge_liberty.Goals as goal

pub returns-in_err-delays-clause-halt : goal.returns-in_err-delays-clause-halt
returns-in_err-delays-clause-halt c =
    let p = err_from_is_err_and c.from_residual-in_err-delays.result c.from_residual-in_err-delays.ensures.1 in
    rw (p.1, p.2) (halted c.args.limits.now c.args.netlist.now c.args.delays.now c.args.library.now c.args.gates.now c.args.clock.now c.in_err-delays.field-0.0
    (λ r h. of_delays c.in_ok-netlist.netlist c.in_ok-netlist.ensures.value h) c.in_err-delays.ensures)

pub returns-in_err-cells-clause-halt : goal.returns-in_err-cells-clause-halt
returns-in_err-cells-clause-halt c =
    let p = err_from_is_err_and c.from_residual-in_err-cells.result c.from_residual-in_err-cells.ensures.1 in
    rw (p.1, p.2) (unfitted c.args.limits.now c.args.netlist.now c.args.delays.now c.args.library.now c.args.gates.now c.args.clock.now c.in_ok-netlist.netlist c.in_ok-delays.delays.items c.in_err-cells.field-0.0
    c.in_ok-netlist.ensures.value c.in_ok-delays.ensures c.in_err-cells.ensures.unfit)

pub returns-in_err-clock-clause-halt : goal.returns-in_err-clock-clause-halt
returns-in_err-clock-clause-halt c =
    let p = err_from_is_err_and c.from_residual-in_err-clock.result c.from_residual-in_err-clock.ensures.1 in
    rw (p.1, p.2) (halted c.args.limits.now c.args.netlist.now c.args.delays.now c.args.library.now c.args.gates.now c.args.clock.now c.in_err-clock.field-0.0
    (λ r h. of_clock c.in_ok-netlist.netlist c.in_ok-delays.delays.items c.in_ok-cells.cells c.in_ok-netlist.ensures.value c.in_ok-delays.ensures c.in_ok-cells.ensures.cells h) c.in_err-clock.ensures)

pub returns-in_err-senses-clause-halt : goal.returns-in_err-senses-clause-halt
returns-in_err-senses-clause-halt c =
    let p = err_from_is_err_and c.from_residual-in_err-senses.result c.from_residual-in_err-senses.ensures.1 in
    rw (p.1, p.2) tt

pub returns-in_err-design_of-clause-halt : goal.returns-in_err-design_of-clause-halt
returns-in_err-design_of-clause-halt c =
    let v = c.args.netlist.now in
    let d = c.args.delays.now in
    let k = c.args.clock.now in
    let netlist = c.in_ok-netlist.netlist in
    let delays = c.in_ok-delays.delays.items in
    let cells = c.in_ok-cells.cells in
    let clock = c.in_ok-clock.clock in
    let read : AreReadApart v d (library_with c.args.gates.now c.args.library.now).cells k netlist delays cells clock
    = record { netlist_read = c.in_ok-netlist.ensures.value; delays_read = c.in_ok-delays.ensures; cells_read = c.in_ok-cells.ensures.cells; clock_read = c.in_ok-clock.ensures } in
    let p = err_from_is_err_and c.from_residual-in_err-design_of.result c.from_residual-in_err-design_of.ensures.1 in
    rw (p.1, p.2) (halted c.args.limits.now c.args.netlist.now c.args.delays.now c.args.library.now c.args.gates.now c.args.clock.now c.in_err-design_of.field-0.0
    (over_refusal c.args.limits.now v d (library_with c.args.gates.now c.args.library.now) k netlist delays cells clock read c.in_ok-senses.senses c.in_ok-senses.ensures) c.in_err-design_of.ensures)

pub returns-clause-value : goal.returns-clause-value
returns-clause-value c =
    let v = c.args.netlist.now in
    let d = c.args.delays.now in
    let k = c.args.clock.now in
    let netlist = c.in_ok-netlist.netlist in
    let delays = c.in_ok-delays.delays.items in
    let cells = c.in_ok-cells.cells in
    let clock = c.in_ok-clock.clock in
    let read : AreReadApart v d (library_with c.args.gates.now c.args.library.now).cells k netlist delays cells clock
    = record { netlist_read = c.in_ok-netlist.ensures.value; delays_read = c.in_ok-delays.ensures; cells_read = c.in_ok-cells.ensures.cells; clock_read = c.in_ok-clock.ensures } in
    over_design c.args.limits.now v d (library_with c.args.gates.now c.args.library.now) k netlist delays cells clock read c.in_ok-senses.senses c.in_ok-senses.ensures c.in_ok-design_of.field-0 c.in_ok-design_of.ensures

pub returns-clause-within : goal.returns-clause-within
returns-clause-within c =
    read_within c.unrefused_are_within.ensures c.args.limits.now c.in_ok-netlist.netlist c.in_ok-cells.cells c.in_ok-senses.senses c.in_ok-clock.clock c.in_ok-delays.delays.items c.in_ok-design_of.field-0 c.in_ok-design_of.ensures
