use Rattle.std.proofs.lemmas.Result.{on_ok_weaker}
use Rattle.mintcx_frame.proofs.LeftLaws.{left_written}
use Rattle.mintcx_frame.proofs.rows.put_left.Goals as goal

pub returns : goal.returns
returns c =
    on_ok_weaker c.put-2.result
    (λ e. left_written c.args.lines.now c.put.new.self c.put_number.new.lines c.put-2.new.self c.args.left c.if-left-eq0.false c.in_ok-put.ensures.ok c.in_ok-put_number.ensures e)
    c.put-2.ensures.ok
