use Rattle.std.proofs.Common.{◌++◌, ◌∷◌, [], ◌∙◌, ap, codes, map}
use Rattle.std.proofs.lemmas.Result.{on_ok_weaker}
use Rattle.mintc_timing.specs.Design.{Design}
use Rattle.mintcx_json.specs.Judgements.{violation_value}
use Rattle.mintcx_json.specs.Objects.{Field, array_of, head_fields}
use Rattle.mintcx_json.specs.Clocks.{schedule_fields}
use Rattle.mintcx_json.specs.Pieces.{fields_tokens}
use Rattle.mintcx_json.proofs.PieceLaws.{and_fields, one_object}
use Rattle.mintcx_json.proofs.judgements.put_fail.Goals as goal

pub returns : goal.returns
returns c =
    let design = c.args.judged.now.system.now.flat in
    let s = c.args.judged.now.schedule.now in
    let head = head_fields (codes "check") 1 (codes "fail") c.args.subject.now in
    let clock = schedule_fields design s in
    let last : Field = (codes "violations", array_of (map (violation_value c.args.judged.now.system.now) c.args.violations.now)) in
    let times = c.in_ok-put_schedule.ensures ∙ ap (λ (x : Design). c.put_head.new.sheet ++ fields_tokens (schedule_fields x s)) c.flat.ensures.value in
    on_ok_weaker c.close.result
    (λ e. one_object c.args.sheet.now (head ++ clock ++ last ∷ []) c.in_ok-open.ensures
    (and_fields c.open.new.self (head ++ clock) (last ∷ []) (and_fields c.open.new.self head clock c.in_ok-put_head.ensures times)
    c.in_ok-put_violations.ensures) e)
    c.close.ensures
