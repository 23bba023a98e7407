use Rattle.mintcx_fares.proofs.WideLaws.{after_edge, before_edge}
use Rattle.mintcx_fares.proofs.items.limit_of.Goals as goal

pub returns-then-hold : goal.returns-then-hold
returns-then-hold c =
    after_edge c.edge_at-edge.result c.span_time.result c.from.result c.from.ensures c.edge_at-edge.ensures.low c.edge_at-edge.ensures.high
    c.span_time.ensures.low c.span_time.ensures.high

pub returns-else-hold : goal.returns-else-hold
returns-else-hold c =
    before_edge c.edge_at-edge.result c.span_time-else-hold.result c.from-else-hold.result c.from-else-hold.ensures c.edge_at-edge.ensures.low c.edge_at-edge.ensures.high
    c.span_time-else-hold.ensures.low c.span_time-else-hold.ensures.high
