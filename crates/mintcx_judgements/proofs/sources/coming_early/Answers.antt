use Rattle.std.proofs.Common.{◌∙◌, refl}
use Rattle.mintcx_judgements.proofs.WideLaws.{comes_at, comes_fits, comes_in_range}
use Rattle.mintcx_judgements.proofs.sources.coming_early.Goals as goal

pub overflow_sub-result : goal.overflow_sub-result
overflow_sub-result c =
    comes_fits c.leaving.result c.shortest.result c.turning.result c.leaving.ensures.range c.shortest.ensures.range c.turning.ensures.range

pub returns-clause-value : goal.returns-clause-value
returns-clause-value c =
    comes_at c.leaving.result c.shortest.result c.turning.result c.leaving.ensures.range c.shortest.ensures.range c.turning.ensures.range
    ∙ rw (c.leaving.ensures.value, c.shortest.ensures.value, c.turning.ensures.value) refl

pub returns-clause-range : goal.returns-clause-range
returns-clause-range c =
    comes_in_range c.leaving.result c.shortest.result c.turning.result c.leaving.ensures.range c.shortest.ensures.range c.turning.ensures.range
