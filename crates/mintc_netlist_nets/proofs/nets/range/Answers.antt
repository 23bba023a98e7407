use Rattle.std.proofs.Common.{sym, ◌∙◌, ap, Some, None}
use Rattle.mintc_netlist_nets.specs.Declaring.{look}
use Rattle.mintc_netlist_nets.proofs.SharedLookLaws.{range-port, range-net}
use Rattle.mintc_netlist_nets.proofs.nets.range.Goals as goal

pub returns-in-Some : goal.returns-in-Some
returns-in-Some c = range-port c.args.module_nets.now c.args.name.now c.in-Some.declaration (ap (look c.args.name.now) (sym c.requires.ports) ∙ sym c.find.ensures ∙ c.in-Some.is)

pub returns-in-Some-find : goal.returns-in-Some-find
returns-in-Some-find c =
    range-net c.args.module_nets.now c.args.name.now (Some c.in-Some-find.declaration) (ap (look c.args.name.now) (sym c.requires.ports) ∙ sym c.find.ensures ∙ c.in-None.is)
    (ap (look c.args.name.now) (sym c.requires.wires) ∙ sym c.find-in-None.ensures ∙ c.in-Some-find.is)

pub returns-in-None-find : goal.returns-in-None-find
returns-in-None-find c =
    range-net c.args.module_nets.now c.args.name.now None (ap (look c.args.name.now) (sym c.requires.ports) ∙ sym c.find.ensures ∙ c.in-None.is)
    (ap (look c.args.name.now) (sym c.requires.wires) ∙ sym c.find-in-None.ensures ∙ c.in-None-find.is)
