use Rattle.std.proofs.Common.{◌≡◌, take}
use Rattle.std.specs.Str.Parse.{AllDigits, digits_value}
use Rattle.mintc_text.proofs.numerals.leading_digits.Given as goal

-- the number of the digits so far
abbrev pub invariant-loop-at : goal.invariant-loop-at
invariant-loop-at l = AllDigits 10 (take l.at l.bytes) × (l.value ≡ digits_value 10 (take l.at l.bytes))
