use Rattle.std.proofs.Common.{◌∷◌, [], ◌++◌, ap, ◌∙◌}
use Rattle.toml.specs.View.{table_view}
use Rattle.mintc_clock.specs.ClockOf.{is_phase_table, phase_of}
use Rattle.mintc_clock.proofs.ReadLaws.{one-fails, one-passes, all-passed}
use Rattle.mintc_clock.proofs.read.read_phases.Goals as goal

pub loop-number-preserved : goal.loop-number-preserved
loop-number-preserved c =
    one-passes (λ t. table_view t.now) is_phase_table phase_of c.args.tables.now c.loop-number.number c.index-tables-number.result c.loop-number.phases.items c.push.new.self.items
    c.loop-number-test.true c.index-tables-number.is c.loop-number.invariant c.if-not-is_phase_table.ensures
    (c.in_ok-push.ensures.items ∙ ap (λ x. c.loop-number.phases.items ++ x ∷ []) c.in_ok-phase.ensures)

pub returns-then-not-is_phase_table : goal.returns-then-not-is_phase_table
returns-then-not-is_phase_table c =
    one-fails (λ t. table_view t.now) is_phase_table phase_of c.args.tables.now c.loop-number.number c.index-tables-number.result c.loop-number.phases.items
    c.loop-number-test.true c.index-tables-number.is c.loop-number.invariant c.if-not-is_phase_table.ensures

pub returns : goal.returns
returns c = all-passed (λ t. table_view t.now) is_phase_table phase_of c.args.tables.now c.loop-number.number c.loop-number.phases.items c.loop-number-test.false c.loop-number.invariant
