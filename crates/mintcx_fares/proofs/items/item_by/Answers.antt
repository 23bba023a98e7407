use Rattle.mintcx_fares.proofs.WideLaws.{come_drawn, keep_drawn, keep_laps, keep_leaving, keep_long, keep_opening}
use Rattle.mintcx_fares.proofs.items.item_by.Goals as goal

pub returns-clause-item : goal.returns-clause-item
returns-clause-item c = record {
  from = c.requires.from;
  to = c.requires.to;
  room = keep_long c.args.place.2 c.requires.room;
  at = keep_leaving c.leaving-at.result c.leaving-at.ensures;
  come = come_drawn c.leaving-at.result c.span_time.result c.from.result c.from.ensures c.leaving-at.ensures c.span_time.ensures.low c.span_time.ensures.high;
  lap = keep_laps c.lap_of-lap.result c.lap_of-lap.ensures;
  opens = keep_opening c.opens_at-opens.result c.opens_at-opens.ensures;
  limit = keep_drawn c.limit_of.result c.limit_of.ensures;
}
