use Rattle.std.proofs.Common.{◌≡◌, take, ◌++◌}
use Rattle.std.specs.Str.Parse.{digits_value}
use Rattle.mintc_decimal.proofs.decimal.read_few_digits.Given as goal

-- the number of the digits so far
abbrev pub invariant-loop-at : goal.invariant-loop-at
invariant-loop-at l = l.value ≡ digits_value 10 (take l.at (l.whole ++ l.fraction))
