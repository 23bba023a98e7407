use Rattle.std.proofs.Common.{◌<◌, length, arith}
use Rattle.mintcx_places.proofs.FeedLaws.{begins_behind, feeds_all, feeds_behind}
use Rattle.mintcx_places.specs.Lines.{IsFree}
use Rattle.mintcx_places.proofs.lines.line_start.Goals as goal

pub returns-then-feed-text-clause-none : goal.returns-then-feed-text-clause-none
returns-then-feed-text-clause-none c =
    let free : IsFree c.args.text.now c.loop-passed.from (length c.args.text.now) = λ k h g. c.place_of-feed.ensures.none_before k h (omega arith) in
    omega (arith, feeds_all c.args.text.now c.loop-passed.from c.loop-passed.invariant.within free)

pub loop-passed-preserved : goal.loop-passed-preserved
loop-passed-preserved c =
    let lt : c.place_of-feed.result < length c.args.text.now = omega arith in
    let here = c.place_of-feed.ensures.here lt in
    record {
      begins = begins_behind c.args.text.now c.place_of-feed.result here;
      within = omega arith;
      count = omega (arith, feeds_behind c.args.text.now c.loop-passed.from c.place_of-feed.result c.place_of-feed.ensures.after lt c.place_of-feed.ensures.none_before here);
    }
