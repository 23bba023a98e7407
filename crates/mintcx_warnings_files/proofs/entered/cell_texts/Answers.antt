use Rattle.std.proofs.Common.{◌++◌, ◌∙◌, ap, arith}
use Rattle.mintcx_warnings_files.specs.Written.{IsOfCell}
use Rattle.mintcx_warnings_files.proofs.TextLaws.{no_texts, text_more}
use Rattle.mintcx_warnings_files.proofs.entered.cell_texts.Goals as goal

pub loop-cell-init : goal.loop-cell-init
loop-cell-init c = no_texts (IsOfCell c.args.met.now.cells.now c.args.parts.now c.args.met.now.paths.now) 0 c.new-lines.result c.new-lines.ensures

pub loop-cell-preserved : goal.loop-cell-preserved
loop-cell-preserved c =
    text_more (IsOfCell c.args.met.now.cells.now c.args.parts.now c.args.met.now.paths.now) 0 c.loop-cell.cell c.loop-cell.cell c.loop-cell.lines c.in_ok-cell_text.field-0 c.put.new.self c.loop-cell.invariant (omega arith) c.in_ok-cell_text.ensures
    (c.in_ok-put.ensures.ok ∙ ap (λ v. c.loop-cell.lines ++ v) c.items.ensures)
