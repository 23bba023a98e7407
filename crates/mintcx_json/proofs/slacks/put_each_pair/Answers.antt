use Rattle.std.proofs.Common.{◌≡◌, ◌++◌, ◌∷◌, [], ◌∙◌, ℕ, ℤ, List, ap, arith, get_or, map, pos, take, sym, to_z, of_z}
use Rattle.std.specs.Int.{w128}
use Rattle.std.proofs.lemmas.Grind.{common_steps}
use Rattle.std.proofs.lemmas.List.{take_more}
use Rattle.json.specs.Json.{Json}
use Rattle.json.specs.Tree.{json_tokens}
use Rattle.mintcx_json.specs.Pieces.{values_tokens}
use Rattle.mintcx_json.specs.Slacks.{pair_value}
use Rattle.mintcx_json.proofs.PieceLaws.{one_taken}
use Rattle.mintcx_json.proofs.slacks.put_each_pair.Goals as goal

pub loop-place-preserved : goal.loop-place-preserved
loop-place-preserved c =
    let value : ℤ × ℕ → Json = pair_value c.args.system.now (to_z w128 (of_z w128 c.args.den)) in
    let list = c.args.places.now in
    let i = c.loop-place.place-index in
    let this : ℤ × ℕ = get_or list i (pos 0, 0) in
    let written : c.put_pair.new.sheet ≡ c.loop-place.sheet ++ json_tokens (value this) = grind (arith, common_steps, c.in_ok-put_pair.ensures) in
    one_taken value c.args.sheet.now (take i list) this c.loop-place.invariant written
    ∙ ap (λ (v : List (ℤ × ℕ)). c.args.sheet.now ++ values_tokens (map value v)) (sym (take_more list i (pos 0, 0) c.loop-place-test.true))
