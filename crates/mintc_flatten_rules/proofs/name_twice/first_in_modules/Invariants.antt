use Rattle.std.proofs.Common.{◌≡◌, [], drop, filter, not}
use Rattle.mintc_flatten_hierarchy.specs.Sources.{source_of, is_stub}
use Rattle.mintc_flatten_rules.specs.Twice.{first_again_of}
use Rattle.mintc_flatten_rules.proofs.name_twice.first_in_modules.Given as goal

-- the modules that are left have the first that gives a name again
abbrev pub invariant-loop-module : goal.invariant-loop-module
invariant-loop-module l = let s = source_of l.cells l.modules in
    first_again_of l.names (filter (λ m. not (is_stub s m)) (drop l.module-index l.modules)) ≡ first_again_of [] (filter (λ m. not (is_stub s m)) l.modules)
