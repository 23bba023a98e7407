use Rattle.std.proofs.Common.{◌∙◌}
use Rattle.std.proofs.lemmas.Result.{IfOk-weaker}
use Rattle.mintcx_warnings_files.proofs.CellLaws.{of_cell}
use Rattle.mintcx_warnings_files.proofs.entered.cell_text.Goals as goal

pub returns : goal.returns
returns c =
    IfOk-weaker c.paths_text.result _ _ (λ text h. of_cell c.args.met.now.cells.now c.args.parts.now c.args.met.now.paths.now c.items.result.now c.items-in-len1-up.result.now c.args.cell text
    (c.items.ensures ∙ c.in_ok-paths.ensures) (c.items-in-len1-up.ensures ∙ c.in_ok-paths.ensures) c.in-len1-up.len_at_least h) c.paths_text.ensures
