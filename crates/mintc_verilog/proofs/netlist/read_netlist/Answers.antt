use Rattle.mintc_verilog.proofs.OrdinaryLaws.{are_ordinary}
use Rattle.mintc_verilog.proofs.netlist.read_netlist.Goals as goal

pub returns-clause-ordinary : goal.returns-clause-ordinary
returns-clause-ordinary c = are_ordinary c.args.text.now (record { modules = c.in_ok-modules.modules }) c.requires c.in_ok-modules.ensures.value
