use Rattle.std.proofs.Common.{◌≡◌, ◌++◌, ◌-◌, List, ℕ, ℤ, length, take, ap, ◌∙◌, append_assoc, arith, rules, SFits, w64, to_z, of_z}
use Rattle.std.proofs.lemmas.Grind.{common_steps}
use Rattle.std.proofs.lemmas.Int.{to_z-of_z}
use Rattle.std.proofs.lemmas.Result.{on_ok_weaker}
use Rattle.mintcx_columns.specs.Tables.{table_text}
use Rattle.mintcx_frame.specs.Rows.{shown_rows}
use Rattle.mintcx_slacks.specs.Slacks.{greatest_slack, rest_text, slack_grid}
use Rattle.mintcx_slacks.proofs.listing.put_listed.Goals as goal

pub returns : goal.returns
returns c =
    let old = c.args.lines.now in
    let places = c.args.places.now in
    let n = shown_rows c.args.limit (length places) in
    let shown : List ℕ = table_text (slack_grid c.args.system.now c.args.unit (take n places)) in
    let fits : SFits w64 c.greatest_slack.result = search rules in
    let greatest : to_z w64 (of_z w64 c.greatest_slack.result) ≡ greatest_slack places = to_z-of_z w64 c.greatest_slack.result fits ∙ c.greatest_slack.ensures in
    let count = c.shown_rows-shown.ensures.value in
    let table : c.put_table.new.lines ≡ old ++ shown = grind (arith, common_steps, c.in_ok-put_table.ensures, count) in
    on_ok_weaker c.put_rest.result
    (λ e. e ∙ ap (λ (g : ℤ). c.put_table.new.lines ++ rest_text c.args.unit g (length places - c.shown_rows-shown.result)) greatest
    ∙ ap (λ (k : ℕ). c.put_table.new.lines ++ rest_text c.args.unit (greatest_slack places) (length places - k)) count
    ∙ ap (λ (l : List ℕ). l ++ rest_text c.args.unit (greatest_slack places) (length places - n)) table
    ∙ append_assoc old shown (rest_text c.args.unit (greatest_slack places) (length places - n)))
    c.put_rest.ensures
