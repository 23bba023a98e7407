use Rattle.std.proofs.Common.{◌++◌, ◌∙◌, ℤ, ap, w64}
use Rattle.std.proofs.lemmas.Int.{to_z-of_z}
use Rattle.std.proofs.lemmas.Result.{on_ok_weaker}
use Rattle.csv.specs.Writing.{row_text}
use Rattle.mintcx_csv.specs.Passes.{pass_fields}
use Rattle.mintcx_csv.specs.Records.{text_so_far}
use Rattle.mintcx_csv.specs.Tables.{by_rfc, shown_over}
use Rattle.mintcx_csv.proofs.passes.put_pass_head.Goals as goal

pub returns-clause-text : goal.returns-clause-text
returns-clause-text c =
    on_ok_weaker c.put_over.result
    (λ e. e ∙ ap (λ (den : ℤ). text_so_far c.args.records.now ++ row_text by_rfc (shown_over den 6 pass_fields)) (to_z-of_z w64 c.args.den c.ranges.den))
    c.put_over.ensures.text
