use Rattle.std.proofs.Common.{sym, ◌∙◌}
use Rattle.mintcx_clock_cells.proofs.FitLaws.{has-clocks, no-gates}
use Rattle.mintcx_clock_cells.proofs.library.clock_cells.Goals as goal

pub returns-clause-cells : goal.returns-clause-cells
returns-clause-cells c =
    has-clocks c.args.text.now c.args.gates.now c.in_ok-own.own c.in_ok-senses.senses c.in_ok-with_clocks.field-0 c.in_ok-own.ensures.cells c.in_ok-senses.ensures c.in_ok-check_gates.ensures.fit
    c.in_ok-with_clocks.ensures.names c.in_ok-with_clocks.ensures.each

pub returns-then-is_empty-clause-cells : goal.returns-then-is_empty-clause-cells
returns-then-is_empty-clause-cells c =
    no-gates c.args.text.now c.args.gates.now c.in_ok-own.own c.in_ok-own.ensures.cells (sym c.is_empty.ensures ∙ c.if-is_empty.true)
