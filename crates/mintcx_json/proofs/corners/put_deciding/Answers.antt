use Rattle.std.proofs.Common.{◌≡◌, ◌++◌, ◌∙◌, ℤ, pos, ◌*ℤ◌, ap, codes, w64, to_z, of_z, arith}
use Rattle.std.proofs.lemmas.Grind.{common_steps}
use Rattle.std.proofs.lemmas.Int.{clamps, ints, to_z-of_z}
use Rattle.std.proofs.lemmas.Result.{on_ok_weaker}
use Rattle.json.specs.Tree.{json_tokens}
use Rattle.mintcx_chain.specs.Sums.{cycles_of}
use Rattle.mintcx_joint.specs.Shown.{joint_stages}
use Rattle.mintcx_json.specs.Corners.{joint_value}
use Rattle.mintcx_json.proofs.PieceLaws.{one_field}
use Rattle.mintcx_json.proofs.corners.put_deciding.Goals as goal

pub returns : goal.returns
returns c =
    let s = c.args.schedule.now in
    let ts = c.args.systems.now in
    let chain = c.args.ring.now.members.now in
    let n = c.args.ring.now.first in
    let cycles = cycles_of (joint_stages ts chain) in
    let fewest = c.requires.in_range.den.0 in
    let most = c.requires.in_range.den.1 in
    let over : to_z w64 (of_z w64 s.den) ≡ s.den = to_z-of_z w64 s.den (omega (arith, ints, clamps)) in
    let turns : c.sums_of-sums.result.cycles ≡ cycles = c.sums_of-sums.ensures.cycles ∙ ap cycles_of c.requires.ring.are in
    let taken : to_z w64 (of_z w64 c.cycles_take-delay.result) ≡ pos cycles *ℤ s.cycle =
    grind (arith, common_steps, c.cycles_take-delay.ensures, turns, c.requires.in_range.cycle.0, c.requires.in_range.cycle.1) in
    on_ok_weaker c.put_joint.result
    (λ e. one_field c.args.sheet.now (codes "chain") (joint_value ts s.den (pos cycles *ℤ s.cycle) chain n) c.in_ok-key.ensures
    (e ∙ ap (λ (z : ℤ). c.key.new.self ++ json_tokens (joint_value ts z (to_z w64 (of_z w64 c.cycles_take-delay.result)) chain n)) over
    ∙ ap (λ (z : ℤ). c.key.new.self ++ json_tokens (joint_value ts s.den z chain n)) taken))
    c.put_joint.ensures
