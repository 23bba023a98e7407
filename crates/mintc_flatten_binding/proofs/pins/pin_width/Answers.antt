use Rattle.std.proofs.Common.{length, sym, ap}
use Rattle.mintc_netlist.specs.Connections.{Pin}
use Rattle.mintc_flatten_binding.specs.NetsOfModules.{source_in}
use Rattle.mintc_flatten_binding.proofs.PinLaws.{pin-cell}
use Rattle.mintc_flatten_binding.proofs.pins.pin_width.Goals as goal

pub returns-in-OfCell : goal.returns-in-OfCell
returns-in-OfCell c =
    sym (ap (λ (p : Pin). length p.places) (pin-cell (source_in c.args.source.now) c.args.binding c.in-OfCell.field-0 c.args.number c.in-OfCell.is c.requires.pin))
