use Rattle.std.proofs.Common.{◌≡◌, ◌++◌, take, drop, bytes_eq}
use Rattle.mintc_netlist.specs.Again.{comes_again}
use Rattle.mintc_flatten_rules.proofs.name_twice.add_again.Given as goal

-- the names so far are new, and whether one comes again depends on what is left
abbrev pub invariant-loop-name : goal.invariant-loop-name
invariant-loop-name l = record {
  names : l.names ≡ l.initial.names ++ take l.name-index l.more;
  again : comes_again bytes_eq l.names (drop l.name-index l.more) ≡ comes_again bytes_eq l.initial.names l.more;
}
