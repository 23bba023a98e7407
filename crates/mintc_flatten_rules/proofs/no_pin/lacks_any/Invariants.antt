use Rattle.std.proofs.Common.{◌≡◌, drop}
use Rattle.mintc_flatten_rules.specs.Lacking.{lacks_any}
use Rattle.mintc_flatten_rules.proofs.no_pin.lacks_any.Given as goal

-- what is left lacks a name where the whole does
abbrev pub invariant-loop-name : goal.invariant-loop-name
invariant-loop-name l = lacks_any l.set (drop l.name-index l.wanted) ≡ lacks_any l.set l.wanted
