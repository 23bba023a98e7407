use Rattle.std.proofs.Common.{◌≡◌, ◌++◌, take, map}
use Rattle.mintc_netlist.specs.Nets.{indexes}
use Rattle.mintc_netlist_nets.specs.Tables.{part_place}
use Rattle.mintc_netlist_nets.proofs.nets.Nets.push_part.Given as goal

-- the places of the bits so far are taken in
abbrev pub invariant-loop-number : goal.invariant-loop-number
invariant-loop-number l = l.places.items ≡ l.initial.places.items ++ map (part_place l.module_nets l.name) (take l.number (indexes l.part))
