use Rattle.std.proofs.Common.{◌≡◌, take}
use Rattle.std.specs.List.{flat_map, fold}
use Rattle.mintc_netlist.specs.Nets.{net_names}
use Rattle.mintc_text_names.specs.Names.{with_name}
use Rattle.mintc_netlist_nets.proofs.net_names.add_all_declared.Given as goal

-- the names so far are taken in
abbrev pub invariant-loop-item : goal.invariant-loop-item
invariant-loop-item l = l.names ≡ fold with_name l.initial.names (flat_map net_names (take l.item-index l.items))
