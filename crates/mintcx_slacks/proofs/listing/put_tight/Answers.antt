use Rattle.std.proofs.lemmas.Result.{on_ok_weaker}
use Rattle.mintcx_slacks.proofs.RestLaws.{tight_written}
use Rattle.mintcx_slacks.proofs.listing.put_tight.Goals as goal

pub returns : goal.returns
returns c =
    on_ok_weaker c.put-2.result
    (λ e. tight_written c.args.lines.now c.put_number.new.lines c.put-2.new.self c.args.count c.if-count-eq0.false c.if-count-eq1.false c.in_ok-put_number.ensures e)
    c.put-2.ensures.ok
