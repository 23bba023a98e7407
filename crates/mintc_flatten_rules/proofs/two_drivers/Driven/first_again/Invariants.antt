use Rattle.std.proofs.Common.{◌≡◌, ◌++◌, [], take, drop}
use Rattle.std.specs.List.{flat_map}
use Rattle.mintc_netlist.specs.Connections.{driven_first}
use Rattle.mintc_flatten_binding.specs.NetsOfModules.{source_in}
use Rattle.mintc_flatten_hierarchy.specs.Faults.{drives_in, is_second_driver}
use Rattle.mintc_flatten_rules.specs.Firsts.{first_after}
use Rattle.mintc_flatten_rules.specs.Driving.{HasSame}
use Rattle.mintc_flatten_rules.proofs.two_drivers.Driven.first_again.Given as goal

-- the items so far drive what is driven, and what is left has the first at fault
abbrev pub invariant-loop-number : goal.invariant-loop-number
invariant-loop-number l = let s = source_in l.site.source in
    record {
      driven : HasSame l.self (driven_first l.site.module_nets.part.now ++ flat_map (drives_in s l.site.module_nets.part.now) (take l.number l.items));
      left : first_after (is_second_driver s) l.site.module_nets.part.now (take l.number l.items) (drop l.number l.items) ≡ first_after (is_second_driver s) l.site.module_nets.part.now [] l.items;
    }
