use Rattle.std.proofs.Common.{◌-◌, false, drop, length}
use Rattle.mintc_netlist.specs.Connections.{places_in}
use Rattle.mintc_flatten_rules.specs.Driving.{Drives}
use Rattle.mintc_flatten_rules.proofs.two_drivers.Driven.drive_pieces.Given as goal

-- the last pieces are driven
abbrev pub invariant-loop-number : goal.invariant-loop-number
invariant-loop-number l = Drives l.initial.self l.self (places_in l.module_nets.part.now (drop (length l.pieces - l.number) l.pieces)) false
