use Rattle.std.proofs.Common.{◌≡◌, ◌++◌, ◌∙◌, ℕ, ℤ, List, ap, arith, ◌≤◌}
use Rattle.std.proofs.lemmas.Result.{IfOk-weaker}
use Rattle.json.specs.Tree.{json_tokens}
use Rattle.mintcx_slacks.proofs.SharedPlaceLaws.{by_slack_inside}
use Rattle.mintcx_json.specs.Slacks.{slacks_value}
use Rattle.mintcx_json.proofs.DepthLaws as depths
use Rattle.mintcx_json.proofs.TextLaws.{whole_text}
use Rattle.mintcx_json.proofs.slacks.least_json.Goals as goal

pub put_slacks-requires-clause-places : goal.put_slacks-requires-clause-places
put_slacks-requires-clause-places c =
    rw c.deref.ensures.value (by_slack_inside c.args.extra.now c.in_ok-places.places.items _ c.in_ok-places.ensures c.requires.pairs)

pub returns : goal.returns
returns c =
    let t = c.args.system.now in
    let cycle = c.args.cycle.now in
    let subject = c.args.subject.now in
    let places = c.in_ok-places.places.items in
    let begun = c.new-sheet.result in
    let written : c.put_slacks.new.sheet ≡ begun ++ json_tokens (slacks_value t cycle places subject) =
    c.in_ok-put_slacks.ensures ∙ ap (λ (x : List (ℤ × ℕ)). begun ++ json_tokens (slacks_value t cycle x subject)) c.deref.ensures.value in
    let shallow = depths.slacks t cycle places subject in
    IfOk-weaker c.into_text.result _ _ (λ text e. (places, c.in_ok-places.ensures, e))
    (whole_text c.into_text.result (slacks_value t cycle places subject) begun c.put_slacks.new.sheet c.new-sheet.ensures written
    (omega (arith, shallow)) c.into_text.ensures.reads_back c.into_text.ensures.text)
