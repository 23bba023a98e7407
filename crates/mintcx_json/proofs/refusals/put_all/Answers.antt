use Rattle.std.proofs.Common.{◌++◌, ◌∙◌, ℕ, List, ap, get_or, map, take, sym}
use Rattle.std.proofs.lemmas.List.{take_more}
use Rattle.json.specs.Tree.{json_tokens}
use Rattle.mintcx_json.specs.Objects.{count}
use Rattle.mintcx_json.specs.Pieces.{values_tokens}
use Rattle.mintcx_json.proofs.PieceLaws.{one_taken}
use Rattle.mintcx_json.proofs.refusals.put_all.Goals as goal

pub loop-number-preserved : goal.loop-number-preserved
loop-number-preserved c =
    let list = c.args.numbers.now in
    let i = c.loop-number.number-index in
    let this = get_or list i 0 in
    let written = c.in_ok-put_one.ensures ∙ ap (λ (n : ℕ). c.loop-number.sheet ++ json_tokens (count n)) c.from.ensures in
    one_taken count c.args.sheet.now (take i list) this c.loop-number.invariant written
    ∙ ap (λ (v : List ℕ). c.args.sheet.now ++ values_tokens (map count v)) (sym (take_more list i 0 c.loop-number-test.true))
