use Rattle.std.specs.Prelude.{codes}
use Rattle.std.proofs.lemmas.Result.{on_ok_weaker}
use Rattle.mintcx_warnings.proofs.WrittenLaws.{in_three}
use Rattle.mintcx_warnings.proofs.writing.put_quoted.Goals as goal

pub returns : goal.returns
returns c =
    on_ok_weaker c.put-3.result
    (λ e. in_three c.args.lines.now (codes "`") c.args.name.now (codes "`") c.in_ok-put.ensures.ok c.in_ok-put-2.ensures.ok e)
    c.put-3.ensures.ok
