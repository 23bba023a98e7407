use Rattle.std.proofs.Common.{◌<◌, length, arith}
use Rattle.mintcx_places.proofs.FeedLaws.{begins_behind, feeds_behind}
use Rattle.mintcx_places.proofs.lines.line_around.Goals as goal

pub loop-end-preserved : goal.loop-end-preserved
loop-end-preserved c =
    let text = c.args.text.now in
    let line = c.loop-end.invariant.line in
    let lt : c.loop-end.end < length text = omega arith in
    let here = line.ends lt in
    let next = c.place_of-end-in-loop-end.ensures in
    record {
      line = record {
        begins = begins_behind text c.loop-end.end here;
        order = next.after;
        within = next.within;
        free = next.none_before;
        ends = next.here;
      };
      number = omega (arith, feeds_behind text c.loop-end.from c.loop-end.end line.order lt line.free here);
      above = omega arith;
    }
