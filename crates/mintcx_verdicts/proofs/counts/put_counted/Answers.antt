use Rattle.std.proofs.Common.{◌++◌, decimal, ap, ◌∙◌}
use Rattle.std.proofs.lemmas.Result.{on_ok_weaker}
use Rattle.mintcx_verdicts.specs.Counts.{counted_word}
use Rattle.mintcx_verdicts.proofs.WrittenLaws.{number_and_word}
use Rattle.mintcx_verdicts.proofs.counts.put_counted.Goals as goal

pub returns : goal.returns
returns c =
    let n = c.args.count in
    on_ok_weaker c.put-2.result
    (λ e. number_and_word c.args.lines.now (decimal n) (counted_word n c.args.one.now c.args.many.now) c.in_ok-put_number.ensures c.in_ok-put.ensures.ok
    (e ∙ ap (λ v. c.put.new.self ++ v) c.counted_word.ensures))
    c.put-2.ensures.ok
