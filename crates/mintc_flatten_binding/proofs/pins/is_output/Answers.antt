use Rattle.std.proofs.Common.{sym, ap, ◌∙◌}
use Rattle.mintc_netlist.specs.Connections.{Pin}
use Rattle.mintc_flatten_binding.specs.NetsOfModules.{source_in}
use Rattle.mintc_flatten_binding.proofs.PinLaws.{inside-cell, pin-cell}
use Rattle.mintc_flatten_binding.proofs.pins.is_output.Goals as goal

pub is_output-requires-clause-pin : goal.is_output-requires-clause-pin
is_output-requires-clause-pin c = inside-cell (source_in c.args.source.now) c.args.binding c.in-OfCell.cell c.args.number c.in-OfCell.is c.requires.pin

pub returns-in-OfCell : goal.returns-in-OfCell
returns-in-OfCell c =
    c.is_output.ensures ∙ sym (ap (λ (p : Pin). p.output) (pin-cell (source_in c.args.source.now) c.args.binding c.in-OfCell.cell c.args.number c.in-OfCell.is c.requires.pin))
