use Rattle.std.proofs.Common.{◌≡◌, ◌++◌, take, reverse}
use Rattle.std.specs.List.{flat_map}
use Rattle.mintc_netlist.specs.Expressions.{piece_bits}
use Rattle.mintc_netlist_nets.proofs.ExpressionLaws.{places_of}
use Rattle.mintc_netlist_nets.proofs.nets.Nets.push_places.Given as goal

-- the places of the pieces so far, from the last one, are taken in
abbrev pub invariant-loop-number : goal.invariant-loop-number
invariant-loop-number l = l.places.items ≡ l.initial.places.items ++ places_of l.module_nets (flat_map (piece_bits l.module_nets) (take l.number (reverse l.pieces)))
