use Rattle.std.proofs.Common.{◌+◌, decimal}
use Rattle.std.specs.Prelude.{codes}
use Rattle.std.proofs.lemmas.Result.{on_ok_weaker}
use Rattle.mintcx_verdicts.proofs.WrittenLaws.{in_two}
use Rattle.mintcx_verdicts.proofs.ring.put_member.Goals as goal

pub returns : goal.returns
returns c = on_ok_weaker c.put_number.result
    (λ e. in_two c.args.lines.now (codes "  member ") (decimal (c.args.place + 1)) c.in_ok-put.ensures.ok e)
    c.put_number.ensures
