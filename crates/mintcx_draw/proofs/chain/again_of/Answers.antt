use Rattle.mintcx_draw.proofs.WideLaws.{chain_drawn, keep_delay, keep_drawn, keep_laps, keep_numerator}
use Rattle.mintcx_draw.proofs.chain.again_of.Goals as goal

pub returns-clause-lane : goal.returns-clause-lane
returns-clause-lane c =
    let holder = c.holder_of-holder.result in
    let time = keep_drawn c.args.row.now.at (chain_drawn c.args.row.now.at c.requires.time) in
    record {
      at = time;
      ends = time;
      start = keep_numerator holder.start c.holder_of-holder.ensures.start;
      width = keep_numerator holder.width c.holder_of-holder.ensures.width;
      setup = keep_delay holder.setup c.holder_of-holder.ensures.setup;
      lap = keep_laps c.lap_of.result c.lap_of.ensures.range;
      top = c.requires.top;
    }
