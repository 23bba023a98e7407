use Rattle.std.proofs.Common.{◌++◌, IfSome, Option, ℤ, ap, ◌∙◌, subst, sym}
use Rattle.std.proofs.lemmas.Result.{on_ok_weaker}
use Rattle.mintc_text.specs.Lines.{ended}
use Rattle.mintcx_verdicts.specs.Arrivals.{IsLate, tardy_line, tardy_text}
use Rattle.mintcx_verdicts.proofs.WideLaws.{read_late}
use Rattle.mintcx_verdicts.proofs.elements.put_late.Goals as goal

pub returns-in-Some : goal.returns-in-Some
returns-in-Some c =
    let judging = c.args.judging.now in
    let t = judging.told.system.now in
    let s = judging.told.schedule.now in
    let d = judging.departures.now in
    let unit = judging.told.unit in
    let l = c.args.element in
    let old = c.args.lines.now in
    let late : IsLate c.in-Some.amount = subst (λ (o : Option ℤ). IfSome o IsLate) c.in-Some.is c.requires.amount in
    on_ok_weaker c.put_tardy.result
    (λ e. e ∙ ap (λ x. old ++ ended (tardy_line t s d unit l x)) (read_late c.in-Some.amount late) ∙ ap (λ (o : Option ℤ). old ++ tardy_text t s d unit l o) (sym c.in-Some.is))
    c.put_tardy.ensures
