-- What the code knows of the numbers of a claim, which it takes in one by one and doesn't keep. What they stand for is
-- said of their list, in Numbers.antt (`least`, `greatest`, `number_fault`).
use Rattle.std.specs.Prelude.{ℕ, ℤ, pos, Bool, true, false, not, ◌&&◌, if◌then◌else◌, List, [], ◌∷◌, Option, Some, None}
use Rattle.std.specs.Int.{int_min, int_max}
use Rattle.std.specs.Option.{option_or}
use Rattle.mintc_decimal.specs.Decimals.{Number}
use Rattle.mintc_sdf.specs.declared.numbers.Fault.{Fault}
use Rattle.mintc_sdf.specs.declared.numbers.Fault.TheVariants as fault
use Rattle.mintc_sdf.specs.declared.numbers.Sum.{Sum}
use Rattle.mintc_sdf_tokens.specs.Tokens.{Token}
use Rattle.mintc_sdf.specs.Numbers.{is_far, is_below_zero, rounded_down, rounded_up}

-- before the first number
abbrev pub no_numbers : Sum
no_numbers = record { any = false; least = pos 0; greatest = pos 0; fault = None }

-- a number below 0 where none may be
abbrev pub sign_fault : Bool → Number → Option Fault
sign_fault negative v = if is_below_zero v && not negative then Some fault.Negative else None

-- after one more number that is near enough, given what it is rounded down and up
abbrev pub add_near : Bool → Sum → Number → ℤ → ℤ → Sum
add_near negative s v down up = record {
  any = true;
  least = if s.any then int_min s.least down else down;
  greatest = if s.any then int_max s.greatest up else up;
  fault = option_or s.fault (sign_fault negative v);
}

-- after one more number that is far from 0, above 10^9 femtoseconds in absolute value
abbrev pub add_far : Sum → Sum
add_far s = record { any = s.any; least = s.least; greatest = s.greatest; fault = option_or s.fault (Some fault.Range) }

-- after one more number
abbrev pub add : ℕ → Bool → Sum → Number → Sum
add scale negative s v = if is_far scale v then add_far s
    else add_near negative s v (rounded_down scale v) (rounded_up scale v)

-- after some more numbers
abbrev pub added : ℕ → Bool → Sum → List Number → Sum
added scale negative s [] = s
added scale negative s (v ∷ vs) = added scale negative (add scale negative s v) vs

-- numbers taken in, with what is left behind them
abbrev pub summed : ℕ → Bool → Sum → Option (List Number × List Token) → Option (Sum × List Token)
summed scale negative s None = None
summed scale negative s (Some r) = Some (added scale negative s r.0, r.1)
