use Rattle.std.proofs.Common.{◌≡◌, ◌≤◌, ◌+◌, List, length, ap, ◌∙◌, subst, sym}
use Rattle.std.specs.Prelude.{All}
use Rattle.mintcx_chain.specs.declared.rows.Row.{Row}
use Rattle.mintcx_reports.proofs.ChainLaws.{rows_count, rows_soon}
use Rattle.mintcx_reports.proofs.report.hops_text.Goals as goal

pub hop_table-requires-clause-few : goal.hop_table-requires-clause-few
hop_table-requires-clause-few c =
    let ring = c.requires.ring in
    subst (All (λ (row : Row). row.cycle ≤ 1000000)) (sym (c.items.ensures ∙ c.in_ok-rows.ensures.value))
    (rows_soon c.args.told.now.flat.now c.args.told.now.schedule.now c.args.departures.now c.args.stages.now ring.short ring.most)

pub hop_table-requires-clause-rows : goal.hop_table-requires-clause-rows
hop_table-requires-clause-rows c =
    ap (λ (rows : List Row). length rows) (c.items.ensures ∙ c.in_ok-rows.ensures.value)
    ∙ rows_count c.args.told.now.flat.now c.args.told.now.schedule.now c.args.departures.now c.args.stages.now
