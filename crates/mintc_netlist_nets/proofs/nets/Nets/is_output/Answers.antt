use Rattle.std.proofs.Common.{sym, ◌∙◌, ap, Some, None}
use Rattle.mintc_netlist_nets.specs.Declaring.{look}
use Rattle.mintc_netlist_nets.specs.Tables.{NetTable}
use Rattle.mintc_netlist_nets.proofs.SharedLookLaws.{output-port}
use Rattle.mintc_netlist_nets.proofs.nets.Nets.is_output.Goals as goal

pub returns-in-Some : goal.returns-in-Some
returns-in-Some c =
    output-port c.args.module_nets.now c.args.name.now (Some c.in-Some.declaration) (ap (λ (t : NetTable). look c.args.name.now t.ports) (sym (c.self.view_is ∙ c.requires)) ∙ sym c.find.ensures ∙ c.in-Some.is)

pub returns-in-None : goal.returns-in-None
returns-in-None c =
    output-port c.args.module_nets.now c.args.name.now None (ap (λ (t : NetTable). look c.args.name.now t.ports) (sym (c.self.view_is ∙ c.requires)) ∙ sym c.find.ensures ∙ c.in-None.is)
