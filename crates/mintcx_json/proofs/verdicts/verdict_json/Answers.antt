use Rattle.std.proofs.Common.{◌≡◌, ◌++◌, ◌∙◌, ℕ, List, ap, arith, ◌≤◌}
use Rattle.json.specs.Tree.{json_tokens}
use Rattle.mintcx_json.specs.Verdicts.{verdict_value}
use Rattle.mintcx_json.proofs.DepthLaws as depths
use Rattle.mintcx_json.proofs.TextLaws.{whole_text}
use Rattle.mintcx_json.proofs.verdicts.verdict_json.Goals as goal

pub returns : goal.returns
returns c =
    let examined = c.args.examined.now in
    let t = examined.system.now in
    let certificate = examined.certificate.now in
    let design = examined.design.now in
    let vs = examined.violations.now in
    let v = examined.verdict in
    let called = c.args.view.now.subject in
    let begun = c.new-sheet.result in
    let written : c.put_verdict.new.sheet ≡ begun ++ json_tokens (verdict_value t certificate design called vs v) =
    c.in_ok-put_verdict.ensures ∙ ap (λ (x : List ℕ). begun ++ json_tokens (verdict_value t certificate design x vs v)) c.bytes.ensures in
    let shallow = depths.verdict t certificate design called vs v in
    whole_text c.into_text.result (verdict_value t certificate design called vs v) begun c.put_verdict.new.sheet c.new-sheet.ensures written
    (omega (arith, shallow)) c.into_text.ensures.reads_back c.into_text.ensures.text
