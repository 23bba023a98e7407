use Rattle.std.proofs.Common.{◌≡◌, ◌≤◌}
use Rattle.mintcx_amounts.specs.Decimals.{trimmed}
use Rattle.mintcx_amounts.proofs.decimal.trimmed.Given as goal

-- the decimal is the same without zeros at its end
abbrev pub invariant-loop-places : goal.invariant-loop-places
invariant-loop-places l = record { same : trimmed l.places l.digits ≡ trimmed l.initial.places l.initial.digits; few : l.digits ≤ l.initial.digits }

abbrev pub decreases-loop-places : goal.decreases-loop-places
decreases-loop-places l = l.places
