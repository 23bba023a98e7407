use Rattle.std.proofs.Common.{◌≡◌, ◌++◌, ◌∷◌, [], ◌∙◌, List, ℕ, ap, arith, map, take, get_or, sym, to_z, of_z, w64}
use Rattle.std.proofs.lemmas.Grind.{common_steps}
use Rattle.std.proofs.lemmas.List.{take_more}
use Rattle.json.specs.Json.{Json}
use Rattle.json.specs.Tree.{json_tokens}
use Rattle.mintcx_json.specs.Chains.{arc_value}
use Rattle.mintcx_json.specs.Pieces.{values_tokens}
use Rattle.mintcx_json.proofs.PieceLaws.{one_taken}
use Rattle.mintcx_json.proofs.chains.put_each_arc.Goals as goal

pub loop-number-preserved : goal.loop-number-preserved
loop-number-preserved c =
    let design = c.args.flat.now in
    let value : ℕ → Json = arc_value design (to_z w64 (of_z w64 c.args.den)) c.args.least in
    let list = c.args.path.now in
    let i = c.loop-number.number-index in
    let this = get_or list i 0 in
    let written : c.put_arc.new.sheet ≡ c.loop-number.sheet ++ json_tokens (value this) = grind (arith, common_steps, c.in_ok-put_arc.ensures) in
    one_taken value c.args.sheet.now (take i list) this c.loop-number.invariant written
    ∙ ap (λ (v : List ℕ). c.args.sheet.now ++ values_tokens (map value v)) (sym (take_more list i 0 c.loop-number-test.true))
