use Rattle.std.proofs.Common.{take}
use Rattle.std.specs.List.{flat_map}
use Rattle.mintc_flatten_rules.specs.Driving.{HasSame, port_drives}
use Rattle.mintc_flatten_rules.proofs.two_drivers.Driven.of_inputs.Given as goal

-- the bits of the ports so far
abbrev pub invariant-loop-name : goal.invariant-loop-name
invariant-loop-name l = HasSame l.driven (flat_map (port_drives l.module_nets.part.now) (take l.name-index l.module_nets.part.now.ports))
