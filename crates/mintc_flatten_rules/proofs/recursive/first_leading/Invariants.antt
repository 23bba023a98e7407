use Rattle.std.proofs.Common.{◌≡◌, take, drop, []}
use Rattle.mintc_flatten_hierarchy.specs.Sources.{source_of}
use Rattle.mintc_flatten_hierarchy.specs.Faults.{is_recursive}
use Rattle.mintc_flatten_rules.specs.Firsts.{first_after}
use Rattle.mintc_flatten_rules.proofs.recursive.first_leading.Given as goal

-- what is left has the first at fault
abbrev pub invariant-loop-number : goal.invariant-loop-number
invariant-loop-number l = let test = is_recursive (source_of l.cells l.modules) in
    first_after test l.module_nets (take l.number l.items) (drop l.number l.items) ≡ first_after test l.module_nets [] l.items
