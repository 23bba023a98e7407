use Rattle.std.proofs.Common.{◌∙◌, refl}
use Rattle.mintcx_judgements.proofs.WideLaws.{left_at}
use Rattle.mintcx_judgements.proofs.sources.leaving.Goals as goal

pub returns-clause-value : goal.returns-clause-value
returns-clause-value c =
    left_at c.start.result c.departure.result c.start.ensures.range c.departure.ensures.range
    ∙ rw (c.start.ensures.value, c.departure.ensures.value, c.element.ensures.value, c.pair.ensures.value) refl
