use Rattle.std.proofs.Common.{ap, sym, ◌∙◌}
use Rattle.mintc_netlist_nets.specs.Declaring.{look}
use Rattle.mintc_netlist_nets.proofs.SharedLookLaws.{look-seen}
use Rattle.mintc_netlist_nets.proofs.declared.Declarations.find.Goals as goal

pub returns : goal.returns
returns c = c.copied.ensures ∙ c.get.ensures.value ∙ sym (look-seen c.args.name.now c.self.inside.entries.entries) ∙ ap (look c.args.name.now) c.self.view_is
