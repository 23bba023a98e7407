use Rattle.std.proofs.Common.{◌++◌, ◌∷◌, [], ◌∙◌, ap, codes, map}
use Rattle.std.proofs.lemmas.Result.{on_ok_weaker}
use Rattle.std.specs.List.{range_with_len}
use Rattle.mintc_timing.specs.Design.{Design, element_count}
use Rattle.mintcx_json.specs.Judgements.{departing_value}
use Rattle.mintcx_json.specs.Objects.{Field, array_of, head_fields}
use Rattle.mintcx_json.specs.Clocks.{schedule_fields}
use Rattle.mintcx_json.specs.Pieces.{fields_tokens}
use Rattle.mintcx_json.proofs.PieceLaws.{and_fields, one_object}
use Rattle.mintcx_json.proofs.judgements.put_pass.Goals as goal

pub returns : goal.returns
returns c =
    let design = c.args.judged.now.system.now.flat in
    let s = c.args.judged.now.schedule.now in
    let head = head_fields (codes "check") 0 (codes "pass") c.args.subject.now in
    let clock = schedule_fields design s in
    let last : Field = (codes "elements", array_of (map (departing_value design c.args.judged.now.late.now c.args.judged.now.early.now) (range_with_len 0 (element_count design)))) in
    let times = c.in_ok-put_schedule.ensures ∙ ap (λ (x : Design). c.put_head.new.sheet ++ fields_tokens (schedule_fields x s)) c.flat-flat.ensures.value in
    on_ok_weaker c.close.result
    (λ e. one_object c.args.sheet.now (head ++ clock ++ last ∷ []) c.in_ok-open.ensures
    (and_fields c.open.new.self (head ++ clock) (last ∷ []) (and_fields c.open.new.self head clock c.in_ok-put_head.ensures times)
    (c.in_ok-put_all_departing.ensures ∙ ap (λ (x : Design). c.put_schedule.new.sheet ++ fields_tokens ((codes "elements", array_of (map (departing_value x c.args.judged.now.late.now c.args.judged.now.early.now) (range_with_len 0 (element_count x)))) ∷ [])) c.flat-flat.ensures.value)) e)
    c.close.ensures
