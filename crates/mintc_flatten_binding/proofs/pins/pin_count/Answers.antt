use Rattle.std.proofs.Common.{sym, ◌∙◌}
use Rattle.mintc_flatten_hierarchy.specs.Sources.{source_of}
use Rattle.mintc_flatten_binding.proofs.PinLaws.{count-cell}
use Rattle.mintc_flatten_binding.proofs.pins.pin_count.Goals as goal

pub returns-in-OfCell : goal.returns-in-OfCell
returns-in-OfCell c = c.pin_count.ensures ∙ sym (count-cell (source_of c.args.cells.now c.args.modules.now) c.args.binding c.in-OfCell.cell c.in-OfCell.is)
