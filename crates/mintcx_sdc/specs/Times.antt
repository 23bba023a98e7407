-- Times, names and ports in SDC.
use Rattle.std.specs.Prelude.{◌≡◌, ◌≤◌, ◌<◌, ◌*◌, ◌^◌, ℕ, ℤ, pos, List, [], ◌∷◌, ◌++◌, length}
use Rattle.std.specs.Prelude.{codes, int_lt, unsigned_abs}
use Rattle.std.specs.Str.Parse.{AllDigits, digits_value}
use Rattle.mintc_fraction.specs.Ratio.{over}
use Rattle.mintcx_amounts.specs.declared.unit.Unit.TheVariants.{Nano}
use Rattle.mintcx_amounts.specs.Amounts.{amount_text, sign_of}

-- a whole number of femtoseconds as a decimal of nanoseconds
abbrev pub time_text : ℤ → List ℕ
time_text x = amount_text Nano (over x (pos 1))

-- places behind a point, where there are some
abbrev pub pointed : List ℕ → List ℕ
pointed [] = []
pointed (digit ∷ places) = 46 ∷ digit ∷ places

-- The text is the decimal of so many femtoseconds in nanoseconds: a sign where they are below 0, digits, and at most
-- six places behind a point. The number that all these digits make, over ten to the power of the places, is the number
-- of femtoseconds over a million, exactly.
pub record IsTime (x : ℤ) (text : List ℕ) : Type 0 where
  pub whole : List ℕ
  pub places : List ℕ
  pub parts : text ≡ sign_of (int_lt x (pos 0)) ++ whole ++ pointed places
  pub some : 0 < length whole
  pub whole_digits : AllDigits 10 whole
  pub place_digits : AllDigits 10 places
  pub few : length places ≤ 6
  pub exact : digits_value 10 (whole ++ places) * 10 ^ 6 ≡ unsigned_abs x * 10 ^ length places

-- The decimal of each time that is written is read back as this time.
abbrev pub TimesAreExact : Type 0
TimesAreExact = (x : ℤ) → unsigned_abs x ≤ 10 ^ 24 → IsTime x (time_text x)

-- a name in braces
abbrev pub braced : List ℕ → List ℕ
braced name = codes "{" ++ name ++ codes "}"

-- a port as the last word of a command
abbrev pub ports_text : List ℕ → List ℕ
ports_text port = codes " [get_ports " ++ braced port ++ codes "]"
