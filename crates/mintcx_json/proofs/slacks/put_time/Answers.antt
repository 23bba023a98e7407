use Rattle.std.proofs.Common.{◌≡◌, ◌++◌, ◌∷◌, [], ◌∙◌, ℤ, ap, codes, to_z, of_z, arith}
use Rattle.std.specs.Int.{w128}
use Rattle.std.proofs.lemmas.Grind.{common_steps}
use Rattle.std.proofs.lemmas.Result.{on_ok_weaker}
use Rattle.mintcx_json.specs.Objects.{whole}
use Rattle.mintcx_json.specs.Pieces.{fields_tokens}
use Rattle.mintcx_json.proofs.PieceLaws.{in_two}
use Rattle.mintcx_json.proofs.slacks.put_time.Goals as goal

pub returns : goal.returns
returns c =
    let time = c.args.time.now in
    let den_is : to_z w128 (of_z w128 c.den.result) ≡ time.den = grind (arith, common_steps, c.den.ensures.value) in
    let num_is : to_z w128 (of_z w128 c.num.result) ≡ time.num = grind (arith, common_steps, c.num.ensures) in
    let den = c.in_ok-put_long.ensures ∙ ap (λ (z : ℤ). c.args.sheet.now ++ fields_tokens ((codes "den", whole z) ∷ [])) den_is in
    on_ok_weaker c.put_long-2.result
    (λ e. in_two c.args.sheet.now (codes "den", whole time.den) (codes "cycle", whole time.num) den
    (e ∙ ap (λ (z : ℤ). c.put_long.new.sheet ++ fields_tokens ((codes "cycle", whole z) ∷ [])) num_is))
    c.put_long-2.ensures
