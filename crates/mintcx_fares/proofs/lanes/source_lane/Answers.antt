use Rattle.std.proofs.Common.{arith}
use Rattle.std.proofs.lemmas.Int.{ints}
use Rattle.mintcx_fares.proofs.WideLaws.{keep_drawn, keep_numerator, leaving_drawn}
use Rattle.mintcx_fares.proofs.lanes.source_lane.Goals as goal

pub returns-clause-lane : goal.returns-clause-lane
returns-clause-lane c =
    let holder = c.element_holder-holder in
    let item = c.args.item.now in
    record {
      at = keep_drawn item.at (leaving_drawn item.at c.requires.item.at);
      ends = keep_drawn item.come c.requires.item.come;
      start = keep_numerator holder.result.start holder.ensures.start;
      width = keep_numerator holder.result.width holder.ensures.width;
      setup = (omega (arith, ints), omega (arith, ints));
      lap = (omega (arith, ints), omega (arith, ints));
      top = c.requires.top;
    }
