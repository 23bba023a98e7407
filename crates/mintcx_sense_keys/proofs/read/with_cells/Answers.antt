use Rattle.std.proofs.Common.{◌∙◌}
use Rattle.toml.specs.View.{view}
use Rattle.mintcx_sense_keys.proofs.EntryLaws.{start}
use Rattle.mintcx_sense_keys.proofs.read.with_cells.Goals as goal

pub loop-value-init : goal.loop-value-init
loop-value-init c =
    start (λ p. (view p.0.now, p.1.now)) c.in_ok-pairs.pairs.items c.args.table.now.entries c.into_iter-value-iterator.result c.args.cells.now c.in_ok-pairs.ensures.items
    (c.into_iter-value-iterator.ensures.into_iter_gives ∙ c.iter-value-items.ensures.rest) c.requires
