use Rattle.std.proofs.Common.{◌≡◌, ◌++◌, ◌∷◌, [], arith, length, map}
use Rattle.std.proofs.lemmas.Grind.{common_steps}
use Rattle.std.proofs.lemmas.Result.{on_ok_weaker}
use Rattle.mintcx_json.specs.Objects.{count}
use Rattle.mintcx_json.specs.Pieces.{values_tokens}
use Rattle.mintcx_json.proofs.PieceLaws.{and_values}
use Rattle.mintcx_json.proofs.refusals.put_loop.Goals as goal

pub returns : goal.returns
returns c =
    let old = c.args.sheet.now in
    let arcs = c.args.arcs.now in
    let counted : c.put_one.new.sheet ≡ old ++ values_tokens (count (length arcs) ∷ []) = grind (arith, common_steps, c.in_ok-put_one.ensures) in
    on_ok_weaker c.put_all.result (λ e. and_values old (count (length arcs) ∷ []) (map count arcs) counted e) c.put_all.ensures
