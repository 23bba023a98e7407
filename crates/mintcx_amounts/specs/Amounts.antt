-- Amounts of time as they are shown.
use Rattle.std.specs.Prelude.{◌≡◌, ℕ, ◌+◌, ◌*◌, ◌/◌, ◌%◌, ◌==◌, not, pos, Bool, List, [], ◌∷◌, ◌++◌, if◌then◌else◌}
use Rattle.std.specs.Prelude.{unsigned_abs, int_lt}
use Rattle.mintc_text.specs.Lines.{numeral_of}
use Rattle.mintc_fraction.specs.Ratio.{Ratio, IsFraction, IsEqual, IsLowest}
use Rattle.mintcx_amounts.specs.declared.unit.Unit.{Unit}
use Rattle.mintcx_amounts.specs.declared.decimal.Decimal.{Decimal}
use Rattle.mintcx_amounts.specs.declared.amount.Shown.{Shown}
use Rattle.mintcx_amounts.specs.Units.{femtoseconds}
use Rattle.mintcx_amounts.specs.Decimals.{decimal_text, trimmed}

-- A size of n / scale is a whole number of millionths.
abbrev pub is_short : ℕ → ℕ → Bool
is_short n scale = (n * 1000000) % scale == 0

-- the size n / scale as a decimal: of six places where these are enough, else of the nearest thousandths, a half
-- upwards
abbrev pub size_of : ℕ → ℕ → Decimal
size_of n scale =
    if is_short n scale then trimmed 6 (n * 1000000 / scale) else trimmed 3 ((n * 2000 + scale) / (scale * 2))

-- how a fraction of femtoseconds is shown in a unit
abbrev pub scale_of : Unit → Ratio → ℕ
scale_of unit a = unsigned_abs a.den * femtoseconds unit

abbrev pub shown_in : Unit → Ratio → Shown
shown_in unit a =
    record {
      rounded = not (is_short (unsigned_abs a.num) (scale_of unit a));
      negative = int_lt a.num (pos 0);
      size = size_of (unsigned_abs a.num) (scale_of unit a);
    }

-- the mark of what is rounded, and the sign
abbrev pub mark_of : Bool → List ℕ
mark_of rounded = if rounded then 126 ∷ [] else []

abbrev pub sign_of : Bool → List ℕ
sign_of negative = if negative then 45 ∷ [] else []

-- an amount in writing
abbrev pub shown_text : Shown → List ℕ
shown_text s = (mark_of s.rounded ++ sign_of s.negative) ++ decimal_text s.size

abbrev pub amount_text : Unit → Ratio → List ℕ
amount_text unit a = shown_text (shown_in unit a)

-- The text goes on with the fraction in lowest terms.
pub record AppendsLowest (a : Ratio) (old new : List ℕ) : Type 0 where
  pub lowest : Ratio
  pub positive : IsFraction lowest
  pub reduced : IsLowest lowest
  pub equal : IsEqual lowest a
  pub appended : new ≡ old ++ (numeral_of lowest.num ++ 47 ∷ numeral_of lowest.den)
