use Rattle.std.proofs.Common.{sym, ap, ◌∙◌}
use Rattle.mintc_netlist.specs.Connections.{Pin}
use Rattle.mintc_flatten_hierarchy.specs.Sources.{source_of}
use Rattle.mintc_flatten_binding.proofs.PinLaws.{inside-cell, pin-cell}
use Rattle.mintc_flatten_binding.proofs.pins.pin_name.Goals as goal

pub pin-requires-clause-pin : goal.pin-requires-clause-pin
pin-requires-clause-pin c = inside-cell (source_of c.args.cells.now c.args.modules.now) c.args.binding c.in-OfCell.cell c.args.number c.in-OfCell.is c.requires.pin

pub returns-in-OfCell : goal.returns-in-OfCell
returns-in-OfCell c =
    c.bytes.ensures ∙ c.pin.ensures ∙ sym (ap (λ (p : Pin). p.name) (pin-cell (source_of c.args.cells.now c.args.modules.now) c.args.binding c.in-OfCell.cell c.args.number c.in-OfCell.is c.requires.pin))
