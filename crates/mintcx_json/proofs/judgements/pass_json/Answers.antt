use Rattle.std.proofs.Common.{◌≡◌, ◌++◌, ◌∙◌, ℕ, List, ap, arith}
use Rattle.std.proofs.lemmas.Result.{IfOk-weaker}
use Rattle.json.specs.Token.{Token}
use Rattle.json.specs.Tree.{json_tokens}
use Rattle.mintcx_json.specs.Judgements.{pass_value}
use Rattle.mintcx_json.proofs.DepthLaws as depths
use Rattle.mintcx_json.proofs.TextLaws.{is_text}
use Rattle.mintcx_json.proofs.judgements.pass_json.Goals as goal

pub returns : goal.returns
returns c =
    let t = c.args.judged.now.system.now in
    let s = c.args.judged.now.schedule.now in
    let subject = c.args.view.now.subject in
    let value = pass_value t s c.args.judged.now.late.now c.args.judged.now.early.now subject in
    let written : c.put_pass.new.sheet ≡ json_tokens value =
    c.in_ok-put_pass.ensures
    ∙ ap (λ (ts : List Token). ts ++ json_tokens (pass_value t s c.args.judged.now.late.now c.args.judged.now.early.now c.bytes.result.now)) c.new-sheet.ensures
    ∙ ap (λ (x : List ℕ). json_tokens (pass_value t s c.args.judged.now.late.now c.args.judged.now.early.now x)) c.bytes.ensures in
    let shallow = depths.passed t s c.args.judged.now.late.now c.args.judged.now.early.now subject in
    IfOk-weaker c.into_text.result _ _ (λ text e. is_text value c.put_pass.new.sheet text written (omega (arith, shallow)) c.into_text.ensures.reads_back e)
    c.into_text.ensures.text
