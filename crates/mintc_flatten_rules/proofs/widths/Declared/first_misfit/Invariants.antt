use Rattle.std.proofs.Common.{◌≡◌, [], take, drop}
use Rattle.mintc_flatten_binding.specs.NetsOfModules.{source_in}
use Rattle.mintc_flatten_hierarchy.specs.Faults.{is_misfit}
use Rattle.mintc_flatten_rules.specs.Firsts.{first_after}
use Rattle.mintc_flatten_rules.specs.Widths.{IsDeclaredBy}
use Rattle.mintc_flatten_rules.proofs.widths.Declared.first_misfit.Given as goal

-- what the items so far declare is kept, and what is left has the first at fault
abbrev pub invariant-loop-number : goal.invariant-loop-number
invariant-loop-number l = let test = is_misfit (source_in l.site.source) in record {
  declared : IsDeclaredBy l.self (take l.number l.items);
  left : first_after test l.site.module_nets.part.now (take l.number l.items) (drop l.number l.items) ≡ first_after test l.site.module_nets.part.now [] l.items;
}
