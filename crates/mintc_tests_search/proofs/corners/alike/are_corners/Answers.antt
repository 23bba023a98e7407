use Rattle.std.proofs.Common.{refl}
use Rattle.mintc_tests_search.proofs.AlikeLaws.{corners_taken, few_taken}
use Rattle.mintc_tests_search.proofs.corners.alike.are_corners.Goals as goal

pub loop-index-preserved : goal.loop-index-preserved
loop-index-preserved c =
    let systems = c.args.systems.now in
    let i = c.loop-index.index in
    let t = c.index-systems-index.result in (
      λ some. corners_taken systems i t c.loop-index-test.true c.index-systems-index.is c.index-systems-0.result c.index-systems-0.is (c.if-not-is_corner.ensures.alike refl) c.loop-index.invariant.0,
      few_taken systems i t c.loop-index-test.true c.index-systems-index.is (c.if-not-is_corner.ensures.few refl) c.loop-index.invariant.1,
    )
