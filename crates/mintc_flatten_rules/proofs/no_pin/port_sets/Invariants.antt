use Rattle.std.proofs.Common.{◌≡◌, map, take}
use Rattle.mintc_flatten_rules.specs.Lacking.{port_set}
use Rattle.mintc_flatten_rules.proofs.no_pin.port_sets.Given as goal

-- the sets of the modules so far
abbrev pub invariant-loop-part : goal.invariant-loop-part
invariant-loop-part l = l.sets.items ≡ map port_set (take l.part-index l.modules)
