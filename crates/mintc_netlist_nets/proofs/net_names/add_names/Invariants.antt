use Rattle.std.proofs.Common.{◌≡◌, take}
use Rattle.std.specs.List.{fold}
use Rattle.mintc_text_names.specs.Names.{with_name}
use Rattle.mintc_netlist_nets.proofs.net_names.add_names.Given as goal

-- the names so far are taken in
abbrev pub invariant-loop-name : goal.invariant-loop-name
invariant-loop-name l = l.names ≡ fold with_name l.initial.names (take l.name-index l.more)
