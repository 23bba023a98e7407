use Rattle.std.proofs.Common.{◌≡◌, ◌++◌, ◌∙◌, ℤ, pos, ap, codes, w64, to_z, of_z, arith}
use Rattle.std.proofs.lemmas.Int.{clamps, ints, to_z-of_z}
use Rattle.json.specs.Tree.{json_tokens}
use Rattle.mintcx_chain.specs.Sums.{delay_of}
use Rattle.std.proofs.lemmas.Result.{on_ok_weaker}
use Rattle.mintcx_json.specs.Chains.{chain_value, forbidding_value}
use Rattle.mintcx_json.proofs.PieceLaws.{one_field}
use Rattle.mintcx_json.proofs.chains.put_forbidding.Goals as goal

pub returns : goal.returns
returns c =
    let stages = c.args.stages.now in
    let fewest = c.sums_of-sums.ensures.least in
    let most = c.sums_of-sums.ensures.greatest in
    let taken : to_z w64 (of_z w64 c.sums_of-sums.result.delay) ≡ delay_of stages =
    to_z-of_z w64 c.sums_of-sums.result.delay (omega (arith, ints, clamps)) ∙ c.sums_of-sums.ensures.delay in
    on_ok_weaker c.put_chain.result
    (λ e. one_field c.args.sheet.now (codes "chain") (forbidding_value c.args.flat.now c.args.stages.now) c.in_ok-key.ensures
    (e ∙ ap (λ (z : ℤ). c.key.new.self ++ json_tokens (chain_value c.args.flat.now (pos 1) z stages)) taken))
    c.put_chain.ensures
