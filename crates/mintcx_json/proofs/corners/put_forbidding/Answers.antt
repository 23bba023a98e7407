use Rattle.std.proofs.Common.{◌≡◌, ◌++◌, ◌∙◌, ℤ, pos, ap, codes, w64, to_z, of_z, arith}
use Rattle.std.proofs.lemmas.Int.{clamps, ints, to_z-of_z}
use Rattle.std.proofs.lemmas.Result.{on_ok_weaker}
use Rattle.json.specs.Tree.{json_tokens}
use Rattle.mintcx_chain.specs.Sums.{delay_of}
use Rattle.mintcx_joint.specs.Shown.{joint_stages}
use Rattle.mintcx_json.specs.Corners.{joint_value}
use Rattle.mintcx_json.proofs.PieceLaws.{one_field}
use Rattle.mintcx_json.proofs.corners.put_forbidding.Goals as goal

pub returns : goal.returns
returns c =
    let ts = c.args.systems.now in
    let chain = c.args.ring.now.members.now in
    let n = c.args.ring.now.first in
    let delay = delay_of (joint_stages ts chain) in
    let fewest = c.sums_of-sums.ensures.least in
    let most = c.sums_of-sums.ensures.greatest in
    let taken : to_z w64 (of_z w64 c.sums_of-sums.result.delay) ≡ delay =
    to_z-of_z w64 c.sums_of-sums.result.delay (omega (arith, ints, clamps)) ∙ c.sums_of-sums.ensures.delay ∙ ap delay_of c.requires.are in
    on_ok_weaker c.put_joint.result
    (λ e. one_field c.args.sheet.now (codes "chain") (joint_value ts (pos 1) delay chain n) c.in_ok-key.ensures
    (e ∙ ap (λ (z : ℤ). c.key.new.self ++ json_tokens (joint_value ts (pos 1) z chain n)) taken))
    c.put_joint.ensures
