use Rattle.std.proofs.Common.{◌≡◌, Some, ap, ◌∙◌}
use Rattle.std.proofs.lemmas.Result.{err_from_is_err_and}
use Rattle.toml.specs.View.{table_view}
use Rattle.mintcx_sense_keys.specs.SensedCells.{IsBadPlainCell, IsBadSensedCell, bad_cell, unfit, first_unfit}
use Rattle.mintcx_sense_keys.proofs.EntryLaws.{one_document}
use Rattle.mintcx_sense_keys.proofs.StopLaws.{stopped}
use Rattle.mintcx_sense_keys.proofs.read.read_sensed_cells.Goals as goal

pub returns-in_err-cells-clause-stop : goal.returns-in_err-cells-clause-stop
returns-in_err-cells-clause-stop c =
    let p = err_from_is_err_and c.from_residual-in_err-cells.result c.from_residual-in_err-cells.ensures.1 in
    rw (p.1, p.2) (stopped c.in_err-cells.field-0.0 (IsBadPlainCell c.args.text.now) (IsBadSensedCell c.args.text.now) (λ n rule h. bad_cell h) c.in_err-cells.ensures)

pub returns-in_err-senses-clause-stop : goal.returns-in_err-senses-clause-stop
returns-in_err-senses-clause-stop c =
    let text = c.args.text.now in
    let ms = table_view c.in_ok-document.document in
    let cells = c.in_ok-cells.cells in
    let plain = c.in_ok-cells.ensures in
    let same = one_document text plain.document ms plain.is_document c.in_ok-document.ensures in
    let p = err_from_is_err_and c.from_residual-in_err-senses.result c.from_residual-in_err-senses.ensures.1 in
    rw (p.1, p.2) (stopped c.in_err-senses.field-0.0 (λ n rule. (first_unfit ms cells ≡ Some n) × (rule ≡ 9)) (IsBadSensedCell text)
    (λ n rule h. unfit cells plain (ap (λ m. first_unfit m cells) same ∙ h.0) h.1) c.in_err-senses.ensures)

pub returns-clause-cells : goal.returns-clause-cells
returns-clause-cells c =
    let plain = c.in_ok-cells.ensures in
    let same = one_document c.args.text.now plain.document (table_view c.in_ok-document.document) plain.is_document c.in_ok-document.ensures in
    record { plain = plain; fit = ap (λ m. first_unfit m c.in_ok-cells.cells) same ∙ c.in_ok-senses.ensures.0 }
