use Rattle.std.proofs.Common.{ap, ◌∙◌}
use Rattle.mintc_flatten_hierarchy.specs.Sources.{source_of}
use Rattle.mintc_flatten.specs.Totals.{capped}
use Rattle.mintc_flatten.proofs.CountLaws.{cell_count}
use Rattle.mintc_flatten.proofs.counts.part.Goals as goal

pub returns-in-OfCell : goal.returns-in-OfCell
returns-in-OfCell c =
    cell_count (source_of c.args.cells.now c.args.modules.now) c.in-OfCell.number c.min.result c.args.binding c.in-OfCell.is
    (c.min.ensures ∙ ap capped c.from.ensures ∙ ap capped c.pin_count.ensures)
