use Rattle.std.proofs.Common.{sym, ◌∙◌}
use Rattle.std.proofs.lemmas.Result.{on_ok_weaker}
use Rattle.mintcx_refusals.proofs.WrittenLaws.{short_written}
use Rattle.mintcx_refusals.proofs.writing.put_short_file.Goals as goal

pub returns : goal.returns
returns c =
    on_ok_weaker c.put-2.result
    (λ e. short_written c.args.lines.now c.args.name.now (sym c.is_empty.ensures ∙ c.if-is_empty.false) c.in_ok-put.ensures.ok e)
    c.put-2.ensures.ok
