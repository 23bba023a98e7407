use Rattle.std.specs.Prelude.{codes}
use Rattle.std.proofs.lemmas.Result.{on_ok_weaker}
use Rattle.mintcx_warnings.specs.Ports.{so_many}
use Rattle.mintcx_warnings.proofs.WrittenLaws.{in_three}
use Rattle.mintcx_warnings.proofs.ports.put_both.Goals as goal

pub returns : goal.returns
returns c =
    on_ok_weaker c.put_so_many-2.result
    (λ e. in_three c.args.lines.now (so_many c.args.inputs (codes " input")) (codes ", ") (so_many c.args.outputs (codes " output")) c.in_ok-put_so_many.ensures c.in_ok-put.ensures.ok e)
    c.put_so_many-2.ensures
