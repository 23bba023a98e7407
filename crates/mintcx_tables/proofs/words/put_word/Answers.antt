use Rattle.std.proofs.lemmas.Result.{on_ok_weaker}
use Rattle.mintcx_tables.proofs.PieceLaws.{one_word}
use Rattle.mintcx_tables.proofs.words.put_word.Goals as goal

pub returns : goal.returns
returns c =
    on_ok_weaker c.put-2.result
    (λ e. one_word c.args.lines.now c.put.new.self c.put-2.new.self c.args.word.now c.in_ok-put.ensures.ok e)
    c.put-2.ensures.ok
