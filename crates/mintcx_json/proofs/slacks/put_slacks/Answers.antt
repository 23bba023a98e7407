use Rattle.std.proofs.Common.{◌≡◌, ◌++◌, ◌∷◌, [], ◌∙◌, ℤ, ap, codes, to_z, of_z, arith}
use Rattle.std.specs.Int.{w128}
use Rattle.std.proofs.lemmas.Grind.{common_steps}
use Rattle.std.proofs.lemmas.Result.{on_ok_weaker}
use Rattle.mintcx_json.specs.Objects.{head_fields}
use Rattle.mintcx_json.specs.Pieces.{fields_tokens}
use Rattle.mintcx_json.specs.Slacks.{pairs_field, time_fields}
use Rattle.mintcx_json.proofs.PieceLaws.{and_fields, one_object}
use Rattle.mintcx_json.proofs.slacks.put_slacks.Goals as goal

pub returns : goal.returns
returns c =
    let t = c.args.system.now in
    let cycle = c.args.cycle.now in
    let places = c.args.places.now in
    let head = head_fields (codes "slack") 0 (codes "slack") c.args.subject.now in
    let time = time_fields cycle in
    let den_is : to_z w128 (of_z w128 c.den-den.result) ≡ cycle.den = grind (arith, common_steps, c.den-den.ensures.value) in
    let pairs = c.in_ok-put_pairs.ensures ∙ ap (λ (z : ℤ). c.put_time.new.sheet ++ fields_tokens (pairs_field t z places ∷ [])) den_is in
    on_ok_weaker c.close.result
    (λ e. one_object c.args.sheet.now (head ++ time ++ pairs_field t cycle.den places ∷ []) c.in_ok-open.ensures
    (and_fields c.open.new.self (head ++ time) (pairs_field t cycle.den places ∷ [])
    (and_fields c.open.new.self head time c.in_ok-put_head.ensures c.in_ok-put_time.ensures) pairs) e)
    c.close.ensures
