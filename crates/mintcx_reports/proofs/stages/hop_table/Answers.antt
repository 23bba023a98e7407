use Rattle.std.proofs.Common.{◌≡◌, ◌++◌, ◌∷◌, [], ℕ, List, length, ap, ◌∙◌}
use Rattle.std.specs.Prelude.{flat_map}
use Rattle.std.specs.List.{range_with_len}
use Rattle.mintcx_reports.specs.Rows.{hop_columns, hop_head, last_cells, nth_rows}
use Rattle.mintcx_reports.proofs.HopLaws.{grid_is}
use Rattle.mintcx_reports.proofs.stages.hop_table.Goals as goal

pub returns : goal.returns
returns c =
    let told = c.args.told.now in
    let stages = c.args.stages.now in
    let each = flat_map (nth_rows told.flat.now told.schedule.now told.cells.now told.unit stages c.args.rows.now) (range_with_len 0 (length stages)) in
    let last = last_cells told.flat.now told.schedule.now told.unit stages c.args.rows.now in
    grid_is c.push_rows.new.table hop_columns (hop_head ∷ each ++ last ∷ [])
    (c.in_ok-push_rows.ensures.columns ∙ c.new-table.ensures.columns ∙ c.in_ok-columns.ensures)
    (c.in_ok-push_rows.ensures.ok ∙ ap (λ (v : List (List (List ℕ))). v ++ hop_head ∷ [] ++ each ++ last ∷ []) c.new-table.ensures.rows)
