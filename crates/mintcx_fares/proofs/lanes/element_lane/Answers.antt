use Rattle.mintcx_fares.proofs.WideLaws.{keep_delay, keep_drawn, keep_laps, keep_numerator, lent_drawn}
use Rattle.mintcx_fares.proofs.lanes.element_lane.Goals as goal

pub returns-clause-lane : goal.returns-clause-lane
returns-clause-lane c =
    let holder = c.element_holder-holder in
    let item = c.args.item.now in
    let lent = c.kept_lent-borrowed in
    record {
      at = lent_drawn item.opens lent.result c.from.result c.from.ensures c.requires.item.opens lent.ensures.some lent.ensures.few;
      ends = keep_drawn item.come c.requires.item.come;
      start = keep_numerator holder.result.start holder.ensures.start;
      width = keep_numerator holder.result.width holder.ensures.width;
      setup = keep_delay c.drawn_setup.result c.drawn_setup.ensures;
      lap = keep_laps item.lap c.requires.item.lap;
      top = c.requires.top;
    }
