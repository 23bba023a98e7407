use Rattle.std.proofs.Common.{◌∙◌, ◌-◌, pos}
use Rattle.mintcx_chain.specs.Names.{element_of}
use Rattle.mintcx_draw.proofs.LaneLaws.{held_wide}
use Rattle.mintcx_draw.proofs.WideLaws.{chain_drawn, keep_delay, keep_drawn, keep_laps, keep_numerator, read_chain, read_laps, read_numerator, short, wide}
use Rattle.mintcx_draw.proofs.chain.lane_of.Goals as goal

pub returns-clause-lane : goal.returns-clause-lane
returns-clause-lane c =
    let holder = c.holder_of-holder.result in
    record {
      at = keep_drawn c.args.row.now.at (chain_drawn c.args.row.now.at c.requires.time);
      ends = keep_drawn c.ends_of.result c.ends_of.ensures.range;
      start = keep_numerator holder.start c.holder_of-holder.ensures.start;
      width = keep_numerator holder.width c.holder_of-holder.ensures.width;
      setup = keep_delay holder.setup c.holder_of-holder.ensures.setup;
      lap = keep_laps c.lap_of.result c.lap_of.ensures.range;
      top = c.requires.top;
    }

pub returns-clause-times : goal.returns-clause-times
returns-clause-times c =
    let told = c.args.told.now in
    let row = c.args.row.now in
    let holder = c.holder_of-holder.result in
    held_wide told.flat.now told.schedule.now (element_of c.args.stage.now.why) holder row.at (wide row.at) (short holder.start) (short holder.width) (short c.lap_of.result) (pos (row.cycle - 1))
    (read_chain row.at c.requires.time) (read_numerator holder.start c.holder_of-holder.ensures.start) (read_numerator holder.width c.holder_of-holder.ensures.width)
    (read_laps c.lap_of.result c.lap_of.ensures.range ∙ c.lap_of.ensures.value) c.holder_of-holder.ensures.of
