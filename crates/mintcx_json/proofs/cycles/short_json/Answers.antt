use Rattle.std.proofs.Common.{◌≡◌, ◌++◌, ◌∙◌, List, ap, arith, ◌≤◌}
use Rattle.std.proofs.lemmas.Result.{IfOk-weaker}
use Rattle.json.specs.Tree.{json_tokens}
use Rattle.mintc_timing.specs.Design.{Design}
use Rattle.mintcx_chain.specs.declared.stages.Stage.{Stage}
use Rattle.mintcx_json.specs.Cycles.{short_value}
use Rattle.mintcx_json.proofs.DepthLaws as depths
use Rattle.mintcx_json.proofs.TextLaws.{whole_text}
use Rattle.mintcx_json.proofs.cycles.short_json.Goals as goal

pub returns : goal.returns
returns c =
    let design = c.args.system.now.flat in
    let cycle = c.args.cycle in
    let subject = c.args.subject.now in
    let stages = c.in_ok-stages.stages in
    let begun = c.new-sheet.result in
    let written : c.put_short.new.sheet ≡ begun ++ json_tokens (short_value design cycle stages subject) =
    c.in_ok-put_short.ensures
    ∙ ap (λ (x : Design). begun ++ json_tokens (short_value x cycle c.items.result.now subject)) c.flat.ensures.value
    ∙ ap (λ (x : List Stage). begun ++ json_tokens (short_value design cycle x subject)) c.items.ensures in
    let shallow = depths.short design cycle stages subject in
    IfOk-weaker c.into_text.result _ _ (λ text e. (stages, c.in_ok-stages.ensures.stages, e))
    (whole_text c.into_text.result (short_value design cycle stages subject) begun c.put_short.new.sheet c.new-sheet.ensures written
    (omega (arith, shallow)) c.into_text.ensures.reads_back c.into_text.ensures.text)
