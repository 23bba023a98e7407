use Rattle.mintcx_draw.proofs.WideLaws.{ends_is, ends_range}
use Rattle.mintcx_draw.proofs.chain.ends_of.Goals as goal

pub returns-clause-value : goal.returns-clause-value
returns-clause-value c =
    ends_is c.args.at c.from.result c.span_time.result c.args.delay c.args.den c.from.ensures c.span_time.ensures.value c.requires.at c.requires.delay c.requires.den
    c.span_time.ensures.low c.span_time.ensures.high

pub returns-clause-range : goal.returns-clause-range
returns-clause-range c =
    ends_range c.args.at c.from.result c.span_time.result c.args.delay c.args.den c.from.ensures c.span_time.ensures.value c.requires.at c.requires.delay c.requires.den
    c.span_time.ensures.low c.span_time.ensures.high
