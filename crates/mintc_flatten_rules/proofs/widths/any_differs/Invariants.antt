use Rattle.std.proofs.Common.{◌≡◌, drop}
use Rattle.std.specs.List.{list_any}
use Rattle.mintc_flatten_rules.specs.Widths.{differs}
use Rattle.mintc_flatten_rules.proofs.widths.any_differs.Given as goal

-- what is left has such a name where the whole has
abbrev pub invariant-loop-name : goal.invariant-loop-name
invariant-loop-name l = list_any (differs l.declared l.span) (drop l.name-index l.names) ≡ list_any (differs l.declared l.span) l.names
