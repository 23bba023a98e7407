use Rattle.std.proofs.Common.{false, take}
use Rattle.mintc_flatten_hierarchy.specs.Sources.{binding_pins}
use Rattle.mintc_flatten_binding.specs.NetsOfModules.{source_in}
use Rattle.mintc_flatten_rules.specs.Driving.{Drives, drives_from}
use Rattle.mintc_flatten_rules.proofs.two_drivers.Driven.drive_pins.Given as goal

-- what is connected to the pins so far is driven
abbrev pub invariant-loop-number : goal.invariant-loop-number
invariant-loop-number l = Drives l.initial.self l.self (drives_from l.site.module_nets.part.now l.instance.item.now 0 (take l.number (binding_pins (source_in l.site.source) l.instance.binding))) false
