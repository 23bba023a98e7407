use Rattle.std.proofs.Common.{◌++◌, ◌∷◌, [], ◌∙◌, List, ap, map, take, sym}
use Rattle.std.proofs.lemmas.List.{take_more}
use Rattle.json.specs.Json.{Json}
use Rattle.mintc_timing.specs.declared.violation.Violation.{Violation}
use Rattle.mintcx_json.specs.Judgements.{violation_value}
use Rattle.mintcx_json.specs.Pieces.{values_tokens}
use Rattle.mintcx_json.proofs.PieceLaws.{one_taken}
use Rattle.mintcx_json.proofs.judgements.put_each_violation.Goals as goal

pub loop-violation-preserved : goal.loop-violation-preserved
loop-violation-preserved c =
    let value : Violation → Json = violation_value c.args.system.now in
    let list = c.args.violations.now in
    let i = c.loop-violation.violation-index in
    let this = c.violation-item.result in
    one_taken value c.args.sheet.now (take i list) this c.loop-violation.invariant c.in_ok-put_violation.ensures
    ∙ ap (λ (v : List Violation). c.args.sheet.now ++ values_tokens (map value v))
    (ap (λ (v : Violation). take i list ++ v ∷ []) c.violation-item.is ∙ sym (take_more list i this c.loop-violation-test.true))
