use Rattle.std.proofs.Common.{◌+◌, ◌++◌, ◌∙◌, ℕ, ℤ, pos, List, Bor, map, take, ap, sym, w64}
use Rattle.std.specs.Prelude.{if◌then◌else◌, int_lt}
use Rattle.std.proofs.lemmas.Int.{to_z-of_z}
use Rattle.std.proofs.lemmas.List.{take-map}
use Rattle.std.proofs.lemmas.Result.{on_ok_weaker}
use Rattle.csv.specs.Writing.{row_text}
use Rattle.mintcx_csv.specs.Records.{text_so_far}
use Rattle.mintcx_csv.specs.Tables.{by_rfc}
use Rattle.mintcx_csv.proofs.records.put_over.Goals as goal

pub returns-clause-text : goal.returns-clause-text
returns-clause-text c =
    let value : Bor (List ℕ) → List ℕ = λ field. field.now in
    let fields = c.args.fields.now in
    let columns = c.args.columns in
    let count = c.shown.ensures.value
    ∙ ap (λ (den : ℤ). if int_lt (pos 1) den then columns + 1 else columns) (to_z-of_z w64 c.args.den c.ranges.den) in
    on_ok_weaker c.put_record.result
    (λ e. e ∙ ap (λ (row : List (List ℕ)). text_so_far c.args.records.now ++ row_text by_rfc row)
    (sym (take-map value c.shown.result fields) ∙ ap (λ (n : ℕ). take n (map value fields)) count))
    c.put_record.ensures.text
