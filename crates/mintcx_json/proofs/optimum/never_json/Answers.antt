use Rattle.std.proofs.Common.{◌≡◌, ◌++◌, ◌∙◌, ℕ, List, ap, arith, ◌≤◌}
use Rattle.std.proofs.lemmas.Result.{IfOk-weaker}
use Rattle.json.specs.Token.{Token}
use Rattle.json.specs.Tree.{json_tokens}
use Rattle.mintc_timing.specs.Design.{Design}
use Rattle.mintcx_chain.specs.declared.stages.Stage.{Stage}
use Rattle.mintcx_json.specs.Optimum.{never_value}
use Rattle.mintcx_json.proofs.DepthLaws as depths
use Rattle.mintcx_json.proofs.TextLaws.{is_text}
use Rattle.mintcx_json.proofs.optimum.never_json.Goals as goal

pub returns : goal.returns
returns c =
    let command = c.args.heading.now.command.now in
    let design = c.args.system.now.flat in
    let subject = c.args.heading.now.subject.now in
    let stages = c.in_ok-stages.stages in
    let value = never_value command design stages subject in
    let written : c.put_never.new.sheet ≡ json_tokens value =
    c.in_ok-put_never.ensures
    ∙ ap (λ (ts : List Token). ts ++ json_tokens (never_value command c.flat.result.now c.items.result.now subject)) c.new-sheet.ensures
    ∙ ap (λ (x : Design). json_tokens (never_value command x c.items.result.now subject)) c.flat.ensures.value
    ∙ ap (λ (x : List Stage). json_tokens (never_value command design x subject)) c.items.ensures in
    let shallow = depths.never command design stages subject in
    IfOk-weaker c.into_text.result _ _
    (λ text e. (stages, c.in_ok-stages.ensures.stages, is_text value c.put_never.new.sheet text written (omega (arith, shallow)) c.into_text.ensures.reads_back e))
    c.into_text.ensures.text
