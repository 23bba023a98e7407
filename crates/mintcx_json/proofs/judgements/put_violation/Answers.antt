use Rattle.std.proofs.Common.{◌≡◌, ◌++◌, ◌∷◌, [], ◌∙◌, ℕ, ℤ, List, Option, ap, codes, map, w64, to_z, of_z, arith}
use Rattle.std.proofs.lemmas.Int.{to_z-of_z}
use Rattle.std.proofs.lemmas.Grind.{common_steps}
use Rattle.std.proofs.lemmas.Result.{on_ok_weaker}
use Rattle.json.specs.Json.{string}
use Rattle.mintcx_json.specs.Objects.{Field, array_of, name, whole}
use Rattle.mintcx_json.specs.Chains.{bound_fields}
use Rattle.mintcx_json.specs.Judgements.{bound_of, broken_word, names_of}
use Rattle.mintcx_json.specs.Pieces.{fields_tokens}
use Rattle.mintcx_json.proofs.PieceLaws.{and_fields, in_three, one_object}
use Rattle.mintcx_json.proofs.judgements.put_violation.Goals as goal

pub returns : goal.returns
returns c =
    let t = c.args.system.now in
    let v = c.args.violation.now in
    let kind_field : Field = (codes "kind", string (broken_word v.broken)) in
    let by_field : Field = (codes "by", whole v.amount) in
    let of_field : Field = (codes "of", array_of (map name (names_of t v.broken))) in
    let kind = c.in_ok-put_word.ensures ∙ ap (λ (n : List ℕ). c.open.new.self ++ fields_tokens ((codes "kind", string n) ∷ [])) c.broken_word.ensures in
    let amount : to_z w64 (of_z w64 v.amount) ≡ v.amount = grind (arith, common_steps) in
    let by = c.in_ok-put_whole.ensures ∙ ap (λ (z : ℤ). c.put_word.new.sheet ++ fields_tokens ((codes "by", whole z) ∷ [])) amount in
    let bound = c.in_ok-put_bound.ensures ∙ ap (λ (o : Option ℕ). c.put_of.new.sheet ++ fields_tokens (bound_fields o)) c.bound_of.ensures in
    let said = and_fields c.open.new.self (kind_field ∷ by_field ∷ of_field ∷ []) (bound_fields (bound_of v.broken))
    (in_three c.open.new.self kind_field by_field of_field kind by c.in_ok-put_of.ensures) bound in
    on_ok_weaker c.close.result
    (λ e. one_object c.args.sheet.now (kind_field ∷ by_field ∷ of_field ∷ bound_fields (bound_of v.broken)) c.in_ok-open.ensures said e)
    c.close.ensures
