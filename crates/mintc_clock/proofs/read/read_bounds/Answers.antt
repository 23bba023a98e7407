use Rattle.std.proofs.Common.{◌∷◌, [], ◌++◌, ap, ◌∙◌}
use Rattle.toml.specs.View.{table_view}
use Rattle.mintc_clock.specs.ClockOf.{is_bound_table, bound_of}
use Rattle.mintc_clock.proofs.ReadLaws.{one-fails, one-passes, all-passed}
use Rattle.mintc_clock.proofs.read.read_bounds.Goals as goal

pub loop-number-preserved : goal.loop-number-preserved
loop-number-preserved c =
    one-passes (λ t. table_view t.now) (is_bound_table c.args.names.now) (bound_of c.args.names.now) c.args.tables.now c.loop-number.number c.index-tables-number.result c.loop-number.bounds.items c.push.new.self.items
    c.loop-number-test.true c.index-tables-number.is c.loop-number.invariant c.if-not-is_bound_table.ensures
    (c.in_ok-push.ensures.items ∙ ap (λ x. c.loop-number.bounds.items ++ x ∷ []) c.bound_of.ensures)

pub returns-then-not-is_bound_table : goal.returns-then-not-is_bound_table
returns-then-not-is_bound_table c =
    one-fails (λ t. table_view t.now) (is_bound_table c.args.names.now) (bound_of c.args.names.now) c.args.tables.now c.loop-number.number c.index-tables-number.result c.loop-number.bounds.items
    c.loop-number-test.true c.index-tables-number.is c.loop-number.invariant c.if-not-is_bound_table.ensures

pub returns : goal.returns
returns c = all-passed (λ t. table_view t.now) (is_bound_table c.args.names.now) (bound_of c.args.names.now) c.args.tables.now c.loop-number.number c.loop-number.bounds.items c.loop-number-test.false c.loop-number.invariant
