use Rattle.std.proofs.Common.{◌≡◌, ◌++◌, ◌∙◌, ℤ, pos, ◌*ℤ◌, ap, codes, w64, to_z, of_z, arith}
use Rattle.std.proofs.lemmas.Grind.{common_steps}
use Rattle.std.proofs.lemmas.Int.{clamps, ints, to_z-of_z}
use Rattle.json.specs.Tree.{json_tokens}
use Rattle.mintcx_chain.specs.Sums.{cycles_of}
use Rattle.std.proofs.lemmas.Result.{on_ok_weaker}
use Rattle.mintcx_json.specs.Chains.{chain_value, deciding_value}
use Rattle.mintcx_json.proofs.PieceLaws.{one_field}
use Rattle.mintcx_json.proofs.chains.put_deciding.Goals as goal

pub returns : goal.returns
returns c =
    let s = c.args.schedule.now in
    let stages = c.args.stages.now in
    let fewest = c.requires.den.0 in
    let most = c.requires.den.1 in
    let over : to_z w64 (of_z w64 s.den) ≡ s.den = to_z-of_z w64 s.den (omega (arith, ints, clamps)) in
    let taken : to_z w64 (of_z w64 c.cycles_take-delay.result) ≡ pos (cycles_of stages) *ℤ s.cycle =
    grind (arith, common_steps, c.cycles_take-delay.ensures, c.sums_of-sums.ensures.cycles, c.requires.cycle.0, c.requires.cycle.1) in
    on_ok_weaker c.put_chain.result
    (λ e. one_field c.args.sheet.now (codes "chain") (deciding_value c.args.flat.now c.args.schedule.now c.args.stages.now) c.in_ok-key.ensures
    (e ∙ ap (λ (z : ℤ). c.key.new.self ++ json_tokens (chain_value c.args.flat.now z (to_z w64 (of_z w64 c.cycles_take-delay.result)) stages)) over
    ∙ ap (λ (z : ℤ). c.key.new.self ++ json_tokens (chain_value c.args.flat.now s.den z stages)) taken))
    c.put_chain.ensures
