use Rattle.std.proofs.Common.{◌≡◌, take}
use Rattle.std.specs.List.{flat_map, filter_map, fold}
use Rattle.mintc_netlist.specs.declared.module.Connection.{Connection}
use Rattle.mintc_netlist.specs.Nets.{piece_names}
use Rattle.mintc_text_names.specs.Names.{with_name}
use Rattle.mintc_netlist_nets.proofs.net_names.add_connections.Given as goal

-- the names so far are taken in
abbrev pub invariant-loop-connection : goal.invariant-loop-connection
invariant-loop-connection l = l.names ≡ fold with_name l.initial.names (flat_map (flat_map piece_names) (filter_map (λ (c : Connection). c.expr) (take l.connection-index l.connections)))
