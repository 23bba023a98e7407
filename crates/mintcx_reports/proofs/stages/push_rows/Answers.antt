use Rattle.std.proofs.Common.{◌≡◌, ◌++◌, ◌∷◌, [], ℕ, List, length, ap, ◌∙◌}
use Rattle.std.specs.Prelude.{flat_map}
use Rattle.std.specs.List.{range_with_len}
use Rattle.std.proofs.lemmas.Result.{on_ok_weaker}
use Rattle.mintcx_reports.specs.Rows.{hop_head, last_cells, nth_rows}
use Rattle.mintcx_reports.proofs.stages.push_rows.Goals as goal

pub returns-clause-ok : goal.returns-clause-ok
returns-clause-ok c =
    let told = c.args.told.now in
    let stages = c.args.stages.now in
    let old = c.args.table.now.rows in
    let each = flat_map (nth_rows told.flat.now told.schedule.now told.cells.now told.unit stages c.args.rows.now) (range_with_len 0 (length stages)) in
    let last = last_cells told.flat.now told.schedule.now told.unit stages c.args.rows.now in
    let begun : c.push.new.self.rows ≡ old ++ hop_head ∷ [] = c.in_ok-push.ensures.ok ∙ ap (λ (cell : List (List ℕ)). old ++ cell ∷ []) c.in_ok-head.ensures in
    let rows : c.push_stages.new.table.rows ≡ (old ++ hop_head ∷ []) ++ each =
    c.in_ok-push_stages.ensures.ok ∙ ap (λ (v : List (List (List ℕ))). v ++ each) begun in
    on_ok_weaker c.push-2.result
    (λ e. e ∙ ap (λ (cell : List (List ℕ)). c.push_stages.new.table.rows ++ cell ∷ []) c.in_ok-last.ensures
    ∙ ap (λ (v : List (List (List ℕ))). v ++ last ∷ []) rows)
    c.push-2.ensures.ok
