use Rattle.std.proofs.Common.{◌≡◌, ◌++◌, ◌∷◌, [], ◌+ℤ◌, ap, ◌∙◌, arith}
use Rattle.std.specs.Prelude.{codes}
use Rattle.std.proofs.lemmas.Int.{ints}
use Rattle.std.proofs.lemmas.Result.{on_ok_weaker}
use Rattle.mintcx_judgements.specs.Data.{element_in_words}
use Rattle.mintcx_judgements.specs.Shown.{timed}
use Rattle.mintcx_judgements.proofs.WideLaws.{read_wide, sum_at, wide}
use Rattle.mintcx_judgements.proofs.WrittenLaws.{in_six}
use Rattle.mintcx_judgements.proofs.data.put_source.Goals as goal

pub returns : goal.returns
returns c =
    let unit = c.args.told.now.unit in
    let s = c.args.told.now.schedule.now in
    let departs = c.requires.leaves in
    let takes = c.requires.travel in
    let leaves : wide c.args.leaves ≡ c.args.leaves = read_wide c.args.leaves (omega (arith, ints), omega (arith, ints)) in
    let travel : wide c.args.travel ≡ c.args.travel = read_wide c.args.travel (omega (arith, ints), omega (arith, ints)) in
    on_ok_weaker c.put-2.result
    (λ e. in_six c.args.lines.now (codes "         from ") (element_in_words c.args.told.now.system.now.flat c.args.from) (timed unit s (codes ": leaves at ") c.args.leaves)
    (timed unit s c.args.takes.now c.args.travel) (timed unit s (codes ", so comes at ") (c.args.leaves +ℤ c.args.travel)) (10 ∷ []) c.in_ok-put.ensures.ok c.in_ok-put_element.ensures
    (c.in_ok-put_timed.ensures ∙ ap (λ x. c.put_element.new.lines ++ timed unit s (codes ": leaves at ") x) leaves)
    (c.in_ok-put_timed-2.ensures ∙ ap (λ x. c.put_timed.new.lines ++ timed unit s c.args.takes.now x) travel)
    (c.in_ok-put_timed-3.ensures ∙ ap (λ x. c.put_timed-2.new.lines ++ timed unit s (codes ", so comes at ") x) (sum_at c.args.leaves c.args.travel departs takes))
    e)
    c.put-2.ensures.ok
