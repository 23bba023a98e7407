use Rattle.std.proofs.Common.{◌++◌, ◌∷◌, [], ◌∙◌, ℕ, ap}
use Rattle.std.proofs.lemmas.Result.{on_ok_weaker}
use Rattle.mintcx_json.specs.Objects.{count}
use Rattle.mintcx_json.specs.Pieces.{values_tokens}
use Rattle.mintcx_json.proofs.PieceLaws.{and_values}
use Rattle.mintcx_json.proofs.refusals.put_two.Goals as goal

pub returns : goal.returns
returns c =
    let old = c.args.sheet.now in
    let first = c.in_ok-put_one.ensures ∙ ap (λ (n : ℕ). old ++ values_tokens (count n ∷ [])) c.from.ensures in
    on_ok_weaker c.put_one-2.result
    (λ e. and_values old (count c.args.first ∷ []) (count c.args.second ∷ []) first
    (e ∙ ap (λ (n : ℕ). c.put_one.new.sheet ++ values_tokens (count n ∷ [])) c.from-2.ensures))
    c.put_one-2.ensures
