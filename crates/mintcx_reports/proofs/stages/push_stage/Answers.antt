use Rattle.std.proofs.Common.{◌≡◌, ◌++◌, ◌∷◌, [], ℕ, ℤ, List, to_z, of_z, ap, ◌∙◌, arith}
use Rattle.std.specs.Int.{w128}
use Rattle.std.proofs.lemmas.Int.{ints, to_z-of_z}
use Rattle.std.proofs.lemmas.Result.{on_ok_weaker}
use Rattle.mintcx_reports.specs.Begins.{begin_text}
use Rattle.mintcx_reports.specs.Hops.{stage_hops}
use Rattle.mintcx_reports.specs.Rows.{begin_cells}
use Rattle.mintcx_reports.proofs.HopLaws.{begun_and_hops}
use Rattle.mintcx_reports.proofs.stages.push_stage.Goals as goal

pub returns-clause-ok : goal.returns-clause-ok
returns-clause-ok c =
    let design = c.args.told.now.flat.now in
    let s = c.args.told.now.schedule.now in
    let cells = c.args.told.now.cells.now in
    let unit = c.args.told.now.unit in
    let row = c.args.row.now in
    let stage = c.args.stage.now in
    let old = c.args.table.now.rows in
    let time = c.requires.time in
    let words = begin_text design s unit row stage in
    let read : to_z w128 (of_z w128 row.at) ≡ row.at = to_z-of_z w128 row.at (omega (arith, ints, time.0, time.1)) in
    let begun : c.push.new.self.rows ≡ old ++ begin_cells s unit row words ∷ [] =
    c.in_ok-push.ensures.ok
    ∙ ap (λ (cell : List (List ℕ)). old ++ cell ∷ []) (c.in_ok-cells.ensures ∙ ap (begin_cells s unit row) (c.bytes.ensures ∙ c.in_ok-what.ensures)) in
    on_ok_weaker c.push_hops.result
    (λ e. begun_and_hops old c.push.new.self.rows c.push_hops.new.table.rows (begin_cells s unit row words) (stage_hops design s cells unit row.at stage stage.why)
    begun (e ∙ ap (λ (x : ℤ). c.push.new.self.rows ++ stage_hops design s cells unit x stage stage.why) read))
    c.push_hops.ensures.ok
