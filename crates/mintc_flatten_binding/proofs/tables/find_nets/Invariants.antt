use Rattle.std.proofs.Common.{◌≡◌, map, take}
use Rattle.mintc_netlist_nets.specs.Tables.{table_of}
use Rattle.mintc_flatten_binding.proofs.tables.find_nets.Given as goal

-- the nets of the modules so far
abbrev pub invariant-loop-module : goal.invariant-loop-module
invariant-loop-module l = l.tables.items ≡ map table_of (take l.module-index l.modules)
