use Rattle.std.proofs.Common.{◌≡◌, ◌∙◌}
use Rattle.mintcx_reports.specs.Rows.{nth_rows}
use Rattle.mintcx_reports.proofs.HopLaws.{stages_more}
use Rattle.mintcx_reports.proofs.stages.push_stages.Goals as goal

pub loop-number-preserved : goal.loop-number-preserved
loop-number-preserved c =
    let told = c.args.told.now in
    let kept = c.loop-number.invariant in
    record {
      columns = c.in_ok-push_nth.ensures.columns ∙ kept.columns;
      rows = stages_more (nth_rows told.flat.now told.schedule.now told.cells.now told.unit c.args.stages.now c.args.rows.now) c.loop-number.number
          c.args.table.now.rows c.loop-number.table.rows c.push_nth.new.table.rows kept.rows c.in_ok-push_nth.ensures.ok;
    }
