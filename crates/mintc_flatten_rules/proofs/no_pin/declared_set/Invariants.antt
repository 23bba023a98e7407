use Rattle.std.proofs.Common.{◌≡◌, [], take}
use Rattle.std.specs.List.{fold, flat_map}
use Rattle.mintc_netlist.specs.Nets.{port_names}
use Rattle.mintc_text_names.specs.Names.{with_name}
use Rattle.mintc_flatten_rules.proofs.no_pin.declared_set.Given as goal

-- the names of the items so far are taken in
abbrev pub invariant-loop-item : goal.invariant-loop-item
invariant-loop-item l = l.set ≡ fold with_name [] (flat_map port_names (take l.item-index l.part.items))
