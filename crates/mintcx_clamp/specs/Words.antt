-- The word of a value with `0` in the place of numbers below 0.
use Rattle.std.specs.Prelude.{Bool, false, if◌then◌else◌, ℕ, List, [], ◌∷◌, ◌++◌, map, Option, Some, None, codes}
use Rattle.mintc_text.specs.Signs.{colon}
use Rattle.mintc_decimal.specs.Decimals.{Number, number_of}
use Rattle.mintc_sdf.specs.Forms.{parts_of}
use Rattle.mintc_sdf.specs.Numbers.{is_below_zero}

-- whether what is read is a number below 0
abbrev pub is_below : Option Number → Bool
is_below None = false
is_below (Some v) = is_below_zero v

-- a part of a word, or `0` in its place where it is a number below 0
abbrev pub clamped_part : List ℕ → List ℕ
clamped_part part = if is_below (number_of part) then codes "0" else part

-- each part behind a colon
abbrev pub with_colons : List (List ℕ) → List ℕ
with_colons [] = []
with_colons (part ∷ parts) = colon ∷ part ++ with_colons parts

-- parts with a colon between each two
abbrev pub between_colons : List (List ℕ) → List ℕ
between_colons [] = []
between_colons (part ∷ parts) = part ++ with_colons parts

-- a word with `0` in the place of each part that is a number below 0
abbrev pub clamped_word : List ℕ → List ℕ
clamped_word w = between_colons (map clamped_part (parts_of w))
