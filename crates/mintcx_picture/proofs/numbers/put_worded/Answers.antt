use Rattle.std.proofs.Common.{◌∷◌, []}
use Rattle.std.proofs.lemmas.Result.{on_ok_weaker}
use Rattle.mintcx_picture.proofs.WrittenLaws.{in_three}
use Rattle.mintcx_picture.proofs.numbers.put_worded.Goals as goal

pub returns : goal.returns
returns c =
    on_ok_weaker c.put-3.result
    (λ e. in_three c.args.lines.now c.put.new.self c.put-2.new.self c.put-3.new.self
    c.args.name.now c.args.word.now (34 ∷ [])
    c.in_ok-put.ensures.ok c.in_ok-put-2.ensures.ok e)
    c.put-3.ensures.ok
