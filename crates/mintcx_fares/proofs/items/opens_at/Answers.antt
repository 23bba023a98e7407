use Rattle.mintcx_fares.proofs.WideLaws.{opening_sum}
use Rattle.mintcx_fares.proofs.items.opens_at.Goals as goal

pub returns : goal.returns
returns c =
    opening_sum c.args.holder.now.start c.from.result c.laps_time.result c.from.ensures c.requires.start c.laps_time.ensures.low c.laps_time.ensures.high
