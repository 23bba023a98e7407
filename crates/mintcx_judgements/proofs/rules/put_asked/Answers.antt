use Rattle.std.proofs.Common.{◌≡◌, ◌++◌, ◌*ℤ◌, ap, ◌∙◌, arith, w64, to_z, of_z}
use Rattle.std.specs.Prelude.{codes}
use Rattle.std.proofs.lemmas.Int.{ints}
use Rattle.std.proofs.lemmas.Result.{on_ok_weaker}
use Rattle.mintcx_judgements.specs.Rules.{less_cycles, point_name}
use Rattle.mintcx_judgements.specs.Shown.{timed}
use Rattle.mintcx_judgements.proofs.WideLaws.{read_wide, wide}
use Rattle.mintcx_judgements.proofs.WrittenLaws.{asked_written}
use Rattle.mintcx_judgements.proofs.rules.put_asked.Goals as goal

pub returns : goal.returns
returns c =
    let unit = c.args.told.now.unit in
    let s = c.args.told.now.schedule.now in
    let design = c.args.told.now.system.now.flat in
    let bound = c.args.bound.now in
    let range = c.scaled-asked.ensures.range in
    let gap : to_z w64 (of_z w64 bound.gap) ≡ bound.gap = omega (arith, ints, c.requires.gap) in
    let asked : wide c.scaled-asked.result ≡ bound.gap *ℤ s.den =
    read_wide c.scaled-asked.result (omega (arith, ints), omega (arith, ints)) ∙ c.scaled-asked.ensures.value ∙ ap (λ x. x *ℤ s.den) gap in
    on_ok_weaker c.put-3.result
    (λ e. asked_written c.args.lines.now (codes "         from ") (point_name design bound.from) (codes " to ") (point_name design bound.to)
    (timed unit s (codes " it asks for ") (bound.gap *ℤ s.den)) (less_cycles bound.cycles) c.in_ok-put.ensures.ok c.in_ok-put_point.ensures c.in_ok-put-2.ensures.ok c.in_ok-put_point-2.ensures
    (c.in_ok-put_timed.ensures ∙ ap (λ x. c.put_point-2.new.lines ++ timed unit s (codes " it asks for ") x) asked)
    c.in_ok-put_less.ensures e)
    c.put-3.ensures.ok
