use Rattle.std.proofs.Common.{◌≡◌, ◌<◌, ap, length, arith}
use Rattle.mintcx_lint.proofs.TallyLaws.{tally_next}
use Rattle.mintcx_lint.proofs.latches.tally_of.Goals as goal

pub loop-number-preserved : goal.loop-number-preserved
loop-number-preserved c =
    let t = c.args.system.now in
    let below : c.loop-number.number < length t.pairs = omega (arith, c.loop-number-test.true, ap length c.pairs-number-end.ensures.value) in
    record {
      tallied = tally_next t c.args.storage c.loop-number.number c.with_number-tally.result below (c.with_number-tally.ensures.tallied _ c.loop-number.invariant.tallied);
      few = omega (arith, c.with_number-tally.ensures.few, c.loop-number.invariant.few);
      inside = c.with_number-tally.ensures.inside c.loop-number.invariant.inside;
    }
