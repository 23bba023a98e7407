use Rattle.std.proofs.Common.{◌≡◌, drop, filter, not}
use Rattle.mintc_flatten_hierarchy.specs.Sources.{source_of, is_stub}
use Rattle.mintc_flatten_hierarchy.specs.Faults.{is_no_module}
use Rattle.mintc_flatten_rules.specs.Firsts.{first_of}
use Rattle.mintc_flatten_rules.proofs.no_module.no_module.Given as goal

-- the modules that are left have the first at fault
abbrev pub invariant-loop-number : goal.invariant-loop-number
invariant-loop-number l = let s = source_of l.cells l.modules in
    first_of (is_no_module s) (filter (λ m. not (is_stub s m)) (drop l.number l.modules)) ≡ first_of (is_no_module s) (filter (λ m. not (is_stub s m)) l.modules)
