use Rattle.std.proofs.Common.{◌∙◌, List, ℕ, ap, subst, sym}
use Rattle.mintc_text_names.specs.Names.{is_among}
use Rattle.mintc_flatten_hierarchy.specs.Sources.{source_of}
use Rattle.mintc_flatten_rules.specs.Lacking.{port_set}
use Rattle.mintc_flatten_binding.proofs.SharedThereLaws.{kept_at}
use Rattle.mintc_flatten_rules.proofs.LackLaws.{is_pin_of_cell, is_pin_of_module}
use Rattle.mintc_flatten_binding.specs.Orders.{IsThere}
use Rattle.mintc_flatten_rules.proofs.no_pin.is_pin.Goals as goal

pub returns-in-OfCell : goal.returns-in-OfCell
returns-in-OfCell c = c.is_cell_pin.ensures ∙ is_pin_of_cell (source_of c.args.netlist.now.cells.now c.args.netlist.now.modules.now) c.in-OfCell.number c.args.binding c.args.name.now c.in-OfCell.is

pub returns-in-OfModule : goal.returns-in-OfModule
returns-in-OfModule c =
    let s = source_of c.args.netlist.now.cells.now c.args.netlist.now.modules.now in
    c.has.ensures
    ∙ ap (λ (names : List (List ℕ)). is_among c.args.name.now names) (sym c.index-netlist-number.is)
    ∙ is_pin_of_module s c.in-OfModule.number c.args.binding c.args.name.now c.index-netlist-number.result c.in-OfModule.is
    (kept_at s port_set c.args.netlist.now.ports.now c.in-OfModule.number c.index-netlist-number.result c.args.netlist.now.are_of (subst (IsThere s) c.in-OfModule.is c.requires) c.index-netlist-number.is)
