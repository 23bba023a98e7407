-- Decimals in writing.
use Rattle.std.specs.Prelude.{ℕ, zero, suc, ◌+◌, ◌/◌, ◌%◌, ◌==◌, List, [], ◌∷◌, ◌++◌, decimal, if◌then◌else◌}
use Rattle.mintcx_amounts.specs.declared.decimal.Decimal.{Decimal}

-- the digits of a number with a point before the last so many, and at least one digit before it
abbrev pub with_point : ℕ → ℕ → List ℕ
with_point zero digits = decimal digits ++ 46 ∷ []
with_point (suc places) digits = with_point places (digits / 10) ++ (48 + digits % 10) ∷ []

-- a decimal in writing, with a point only where it has places
abbrev pub decimal_text : Decimal → List ℕ
decimal_text d = if d.places == 0 then decimal d.digits else with_point d.places d.digits

-- the decimal of so many places and these digits without zeros at the end of its places
abbrev pub trimmed : ℕ → ℕ → Decimal
trimmed zero digits = record { digits = digits; places = 0 }
trimmed (suc places) digits =
    if digits % 10 == 0 then trimmed places (digits / 10) else record { digits = digits; places = suc places }
