use Rattle.std.proofs.lemmas.Result.{IfOk-weaker}
use Rattle.mintcx_warnings_files.proofs.entered.entered_texts.Goals as goal

pub returns : goal.returns
returns c = IfOk-weaker c.cell_texts.result _ _ (λ text h. (c.items-2.result.now, rw c.items-2.ensures c.in_ok-paths.ensures, h)) c.cell_texts.ensures
