use Rattle.std.proofs.Common.{arith}
use Rattle.mintc_text_scan.proofs.EndLaws.{before_star, to_star, past_stars}
use Rattle.mintc_text_scan.proofs.comments.last_end.Goals as goal

pub loop-at-init : goal.loop-at-init
loop-at-init c = record {
  at_most = c.place_of-at.ensures.within;
  within = omega arith;
  ends = λ k below _. before_star c.args.text.now c.place_of-at.result c.place_of-at.ensures.none_before k below;
}

pub loop-at-preserved : goal.loop-at-preserved
loop-at-preserved c =
    let next = c.place_of-at-in-loop-at in
    let later = c.later_end-last in record {
      at_most = next.ensures.within;
      within = omega (arith, later.ensures.within, next.ensures.after, c.loop-at.invariant.within);
      ends = to_star c.args.text.now c.loop-at.at next.result c.loop-at.last later.result c.loop-at.invariant.ends later.ensures.here (later.ensures.before (omega (arith, c.loop-at.invariant.within))) next.ensures.none_before;
    }

pub returns : goal.returns
returns c = past_stars c.args.text.now c.loop-at.at c.loop-at.last c.loop-at-test.false c.loop-at.invariant.ends
