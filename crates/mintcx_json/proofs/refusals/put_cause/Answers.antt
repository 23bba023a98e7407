use Rattle.std.proofs.Common.{◌++◌, ◌∷◌, [], ◌∙◌, ℕ, ap, codes}
use Rattle.std.proofs.lemmas.Result.{on_ok_weaker}
use Rattle.mintcx_json.specs.Objects.{Field, array_of, count, name}
use Rattle.mintcx_json.specs.Pieces.{fields_tokens}
use Rattle.mintcx_json.specs.Refusals.{field_values}
use Rattle.mintcx_json.proofs.PieceLaws.{in_three}
use Rattle.mintcx_json.proofs.refusals.put_cause.Goals as goal

pub returns : goal.returns
returns c =
    let old = c.args.sheet.now in
    let cause = c.args.cause.now in
    let number : Field = (codes "number", count cause.number) in
    let fields : Field = (codes "fields", array_of (field_values cause.refusal.now)) in
    let message : Field = (codes "message", name cause.message.now) in
    let counted = c.in_ok-put_count.ensures ∙ ap (λ (n : ℕ). old ++ fields_tokens ((codes "number", count n) ∷ [])) c.from.ensures in
    on_ok_weaker c.put_name.result (λ e. in_three old number fields message counted c.in_ok-put_fields.ensures e) c.put_name.ensures
