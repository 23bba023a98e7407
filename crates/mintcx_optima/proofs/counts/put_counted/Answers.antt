use Rattle.std.proofs.Common.{◌++◌, List, ℕ, ap, ◌∙◌}
use Rattle.std.specs.Prelude.{codes, decimal}
use Rattle.std.proofs.lemmas.Result.{on_ok_weaker}
use Rattle.mintcx_optima.specs.Counts.{plural}
use Rattle.mintcx_optima.proofs.WrittenLaws.{in_four}
use Rattle.mintcx_optima.proofs.counts.put_counted.Goals as goal

pub returns : goal.returns
returns c =
    on_ok_weaker c.put-3.result
    (λ e. in_four c.args.lines.now c.put_number.new.lines c.put.new.self c.put-2.new.self c.put-3.new.self
    (decimal c.args.count) (codes " ") c.args.word.now (plural c.args.count)
    c.in_ok-put_number.ensures c.in_ok-put.ensures.ok c.in_ok-put-2.ensures.ok (e ∙ ap (λ (x : List ℕ). c.put-2.new.self ++ x) c.plural.ensures))
    c.put-3.ensures.ok
