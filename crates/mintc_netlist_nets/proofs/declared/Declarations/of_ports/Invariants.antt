use Rattle.std.proofs.Common.{◌≡◌, take, []}
use Rattle.std.specs.List.{fold, flat_map}
use Rattle.mintc_netlist_nets.specs.Declaring.{with_declaration, port_declarations}
use Rattle.mintc_netlist_nets.proofs.declared.Declarations.of_ports.Given as goal

-- the items so far are taken in
abbrev pub invariant-loop-item : goal.invariant-loop-item
invariant-loop-item l = l.ports ≡ fold with_declaration [] (flat_map port_declarations (take l.item-index l.items))
