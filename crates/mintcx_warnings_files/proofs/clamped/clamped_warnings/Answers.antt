use Rattle.std.proofs.Common.{◌++◌, ◌∙◌, ap}
use Rattle.mintcx_warnings_files.specs.Clamped.{IsOfClamped}
use Rattle.mintcx_warnings_files.proofs.TextLaws.{item_more}
use Rattle.mintcx_warnings_files.proofs.clamped.clamped_warnings.Goals as goal

pub loop-file-preserved : goal.loop-file-preserved
loop-file-preserved c =
    item_more IsOfClamped c.args.files.now c.loop-file.file-index _ c.loop-file.lines c.in_ok-clamped_warning.field-0 c.put.new.self c.loop-file-test.true c.loop-file.invariant c.in_ok-clamped_warning.ensures
    (c.in_ok-put.ensures.ok ∙ ap (λ v. c.loop-file.lines ++ v) c.items.ensures)
