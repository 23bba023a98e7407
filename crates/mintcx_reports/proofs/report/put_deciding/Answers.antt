use Rattle.std.proofs.Common.{◌≡◌, ◌++◌, ◌∷◌, [], ℕ, ℤ, List, length, ap, ◌∙◌}
use Rattle.std.proofs.lemmas.Result.{on_ok_weaker}
use Rattle.mintcx_chain.specs.Rows.{rows_of}
use Rattle.mintcx_chain.specs.Sums.{cycles_of, delay_of}
use Rattle.mintcx_columns.specs.Tables.{table_text}
use Rattle.mintcx_optima.specs.Counts.{decided_text}
use Rattle.mintcx_reports.specs.Rows.{hop_grid}
use Rattle.mintcx_reports.proofs.WrittenLaws.{of_three}
use Rattle.mintcx_reports.proofs.report.put_deciding.Goals as goal

pub returns : goal.returns
returns c =
    let old = c.args.lines.now in
    let design = c.args.told.now.flat.now in
    let s = c.args.told.now.schedule.now in
    let unit = c.args.told.now.unit in
    let stages = c.args.stages.now in
    let sums = c.sums_of-sums.ensures in
    let decided : c.put_decided.new.lines ≡ old ++ decided_text (length stages) (delay_of stages) (cycles_of stages) unit =
    c.in_ok-put_decided.ensures
    ∙ ap (λ (x : ℤ). old ++ decided_text (length stages) x c.sums_of-sums.result.cycles unit) sums.delay
    ∙ ap (λ (n : ℕ). old ++ decided_text (length stages) (delay_of stages) n unit) sums.cycles in
    on_ok_weaker c.put-2.result
    (λ e. of_three old c.put_decided.new.lines c.put.new.self c.put-2.new.self
    (decided_text (length stages) (delay_of stages) (cycles_of stages) unit) (10 ∷ [])
    (table_text (hop_grid design s c.args.told.now.cells.now unit stages (rows_of design s c.args.departures.now stages)))
    decided c.in_ok-put.ensures.ok (e ∙ ap (λ (v : List ℕ). c.put.new.self ++ v) (c.items.ensures ∙ c.in_ok-hops.ensures)))
    c.put-2.ensures.ok
