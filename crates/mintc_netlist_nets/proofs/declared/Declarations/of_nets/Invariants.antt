use Rattle.std.proofs.Common.{◌≡◌, take, []}
use Rattle.std.specs.List.{fold, flat_map}
use Rattle.mintc_netlist_nets.specs.Declaring.{with_declaration, net_declarations}
use Rattle.mintc_netlist_nets.proofs.declared.Declarations.of_nets.Given as goal

-- the items so far are taken in
abbrev pub invariant-loop-item : goal.invariant-loop-item
invariant-loop-item l = l.nets ≡ fold with_declaration [] (flat_map net_declarations (take l.item-index l.items))
