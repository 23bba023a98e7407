use Rattle.std.proofs.Common.{◌≡◌, drop, filter, not}
use Rattle.mintc_flatten_hierarchy.specs.Sources.{is_stub}
use Rattle.mintc_flatten_binding.specs.NetsOfModules.{source_in}
use Rattle.mintc_flatten_hierarchy.specs.Faults.{is_misfit}
use Rattle.mintc_flatten_rules.specs.Firsts.{first_of}
use Rattle.mintc_flatten_rules.proofs.widths.misfit.Given as goal

-- the modules that are left have the first at fault
abbrev pub invariant-loop-number : goal.invariant-loop-number
invariant-loop-number l = let s = source_in l.source in
    first_of (is_misfit s) (filter (λ m. not (is_stub s m)) (drop l.number l.source.modules.now)) ≡ first_of (is_misfit s) (filter (λ m. not (is_stub s m)) l.source.modules.now)
