use Rattle.std.proofs.Common.{◌≡◌, ◌++◌, ap, ◌∙◌, sym, arith, w64, to_z, of_z}
use Rattle.std.proofs.lemmas.Int.{to_z-of_z}
use Rattle.std.proofs.lemmas.Result.{on_ok_weaker}
use Rattle.mintc_text.specs.Lines.{text_of}
use Rattle.mintcx_judgements.specs.Rules.{rule_lines}
use Rattle.mintcx_judgements.proofs.RuleLaws.{as_rule}
use Rattle.mintcx_judgements.proofs.fail.put_violation.Goals as goal

pub returns-in_default : goal.returns-in_default
returns-in_default c =
    let causes = c.args.causes.now in
    let v = c.args.violation.now in
    let amount : to_z w64 (of_z w64 v.amount) ≡ v.amount = grind (arith, to_z-of_z) in
    on_ok_weaker c.put_rule.result
    (λ e. e ∙ ap (λ x. c.args.lines.now ++ text_of (rule_lines causes.told.system.now causes.told.schedule.now causes.told.unit v.broken x)) amount
    ∙ ap (λ lines. c.args.lines.now ++ text_of lines)
    (sym (as_rule causes.told.system.now causes.told.schedule.now causes.late.now causes.early.now causes.told.unit v.broken v.amount
    c.in_default.not-Loop c.in_default.not-Setup c.in_default.not-Hold)))
    c.put_rule.ensures
