use Rattle.std.proofs.Common.{◌≡◌, ◌++◌, ◌∷◌, [], ◌∙◌, ℕ, List, ap, arith, codes}
use Rattle.std.specs.Prelude.{slice_index_or}
use Rattle.std.proofs.lemmas.Grind.{common_steps}
use Rattle.std.proofs.lemmas.Result.{on_ok_weaker}
use Rattle.mintc_certificate.specs.declared.certificate.Certificate.{Certificate}
use Rattle.mintc_certificate.specs.declared.certificate.Certificate.TheVariants as certificate
use Rattle.mintcx_json.specs.Objects.{Field, name}
use Rattle.mintcx_json.specs.Pieces.{fields_tokens}
use Rattle.mintcx_json.specs.Verdicts.{claim_fields}
use Rattle.mintcx_json.proofs.PieceLaws.{and_fields, one_object}
use Rattle.mintcx_json.proofs.corners.put_alone.Goals as goal

pub returns : goal.returns
returns c =
    let names = c.args.corners.now.names.now in
    let alone = c.args.corners.now.alone.now in
    let k = c.args.corner in
    let called = slice_index_or names k [] in
    let own = slice_index_or alone k (certificate.Never []) in
    let delays : Field = (codes "delays", name called) in
    let claim = claim_fields (codes "alone") own in
    let name_is : c.bytes.result.now ≡ called = grind (arith, common_steps, c.bytes.ensures) in
    let begun = c.in_ok-put_name.ensures ∙ ap (λ (n : List ℕ). c.open.new.self ++ fields_tokens ((codes "delays", name n) ∷ [])) name_is in
    let told : c.put_claim.new.sheet ≡ c.put_name.new.sheet ++ fields_tokens claim = grind (arith, common_steps, c.in_ok-put_claim.ensures, c.requires.alone.count, c.requires.alone.named) in
    on_ok_weaker c.close.result
    (λ e. one_object c.args.sheet.now (delays ∷ claim) c.in_ok-open.ensures (and_fields c.open.new.self (delays ∷ []) claim begun told) e)
    c.close.ensures
