use Rattle.std.proofs.Common.{◌≡◌, ◌++◌, ◌∷◌, [], ◌∙◌, ap}
use Rattle.std.proofs.lemmas.List.{append-nil}
use Rattle.std.proofs.lemmas.Result.{IfOk-weaker}
use Rattle.csv.specs.Writing.{row_text}
use Rattle.mintcx_csv.specs.Records.{text_so_far}
use Rattle.mintcx_csv.specs.Tables.{by_rfc, text_of}
use Rattle.mintcx_csv.specs.Verdicts.{verdict_fields, verdict_record}
use Rattle.mintcx_csv.proofs.CycleLaws.{verdict_several}
use Rattle.mintcx_csv.proofs.TableLaws.{is_table, two_rows}
use Rattle.mintcx_csv.proofs.verdicts.verdict_csv.Goals as goal

pub returns : goal.returns
returns c =
    let v = c.args.verdict in
    let text = two_rows (text_so_far c.no_records-records.result) (text_so_far c.put_verdict_head.new.records) (text_so_far c.put_verdict.new.records) verdict_fields (verdict_record v)
    c.no_records-records.ensures.text c.in_ok-put_verdict_head.ensures.text c.in_ok-put_verdict.ensures.text in
    IfOk-weaker c.text_of.result _ _ (λ found e. is_table (verdict_fields ∷ verdict_record v ∷ []) found (e ∙ text) (tt, (verdict_several v, tt))) c.text_of.ensures
