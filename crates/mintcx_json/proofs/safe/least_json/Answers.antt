use Rattle.std.proofs.Common.{◌≡◌, ◌++◌, ◌∙◌, List, ap, arith, ◌≤◌}
use Rattle.std.proofs.lemmas.Result.{IfOk-weaker}
use Rattle.json.specs.Tree.{json_tokens}
use Rattle.mintc_timing.specs.Design.{Design}
use Rattle.mintcx_chain.specs.declared.stages.Stage.{Stage}
use Rattle.mintcx_json.specs.Safe.{safe_value}
use Rattle.mintcx_json.proofs.DepthLaws as depths
use Rattle.mintcx_json.proofs.TextLaws.{whole_text}
use Rattle.mintcx_json.proofs.safe.least_json.Goals as goal

pub returns : goal.returns
returns c =
    let design = c.args.system.now.flat in
    let s = c.args.kept.now.schedule.now in
    let d = c.args.kept.now.departures.now in
    let without = c.args.without.now in
    let subject = c.args.subject.now in
    let stages = c.in_ok-stages.stages in
    let begun = c.new-sheet.result in
    let written : c.put_safe.new.sheet ≡ begun ++ json_tokens (safe_value design s d stages without subject) =
    c.in_ok-put_safe.ensures
    ∙ ap (λ (x : Design). begun ++ json_tokens (safe_value x s d c.items.result.now without subject)) c.flat.ensures.value
    ∙ ap (λ (x : List Stage). begun ++ json_tokens (safe_value design s d x without subject)) c.items.ensures in
    let shallow = depths.safe design s d stages without subject in
    IfOk-weaker c.into_text.result _ _ (λ text e. (stages, c.in_ok-stages.ensures.stages, e))
    (whole_text c.into_text.result (safe_value design s d stages without subject) begun c.put_safe.new.sheet c.new-sheet.ensures written
    (omega (arith, shallow)) c.into_text.ensures.reads_back c.into_text.ensures.text)
