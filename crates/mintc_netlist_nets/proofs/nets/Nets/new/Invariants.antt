use Rattle.std.proofs.Common.{◌≡◌, ◌++◌, map, take, drop}
use Rattle.mintc_netlist.specs.Nets.{names_of, range_of}
use Rattle.mintc_netlist_nets.specs.Tables.{firsts_from}
use Rattle.mintc_netlist_nets.proofs.SharedTableLaws.{bits_before}
use Rattle.mintc_netlist_nets.proofs.nets.Nets.new.Given as goal

-- the first bits of the nets so far are known, how many bits these have, and their ranges
abbrev pub invariant-loop-place : goal.invariant-loop-place
invariant-loop-place l =
    (l.firsts.items ++ firsts_from l.module_nets l.count (drop l.place (names_of l.module_nets)) ≡ firsts_from l.module_nets 0 (names_of l.module_nets))
    × (l.count ≡ bits_before l.module_nets (take l.place (names_of l.module_nets)))
    × (l.spans.items ≡ map (range_of l.module_nets) (take l.place (names_of l.module_nets)))
