-- The least and the greatest of the numbers of a value, in femtoseconds.
use Rattle.std.specs.Prelude.{ℕ, ℤ, if◌then◌else◌, List, [], ◌∷◌, Option, Some, None, option_map, option_and_then}
use Rattle.std.specs.Int.{int_min, int_max}
use Rattle.mintc_decimal.specs.Decimals.{Number, number_of}
use Rattle.mintc_sdf_tokens.specs.Items.{Items, none, leaf, list}
use Rattle.mintc_sdf.specs.Forms.{parts_of, joined, one}
use Rattle.mintc_sdf.specs.Numbers.{is_far, rounded_down, rounded_up}

-- the least number, rounded down, and the greatest, rounded up, if there is a number
abbrev pub Span : Type 0
Span = Option (ℤ × ℤ)

-- the lesser least and the greater greatest
abbrev pub wider : Span → Span → Span
wider None b = b
wider (Some a) None = Some a
wider (Some a) (Some b) = Some (int_min a.0 b.0, int_max a.1 b.1)

-- of two spans that are both in form the wider
abbrev pub wider_of : Option Span → Option Span → Option Span
wider_of (Some a) (Some b) = Some (wider a b)
wider_of _ _ = None

-- a number, unless it is too far from 0
abbrev pub number_span : ℕ → Number → Option Span
number_span scale v = if is_far scale v then None else Some (Some (rounded_down scale v, rounded_up scale v))

-- the number of a part of a value, which may be left out
abbrev pub part_span : ℕ → List ℕ → Option Span
part_span scale [] = Some None
part_span scale (b ∷ bs) = option_and_then (number_span scale) (number_of (b ∷ bs))

-- the numbers of some parts
abbrev pub parts_span : ℕ → List (List ℕ) → Option Span
parts_span scale [] = Some None
parts_span scale (p ∷ ps) = wider_of (part_span scale p) (parts_span scale ps)

-- inside the parentheses of a value: the numbers of its words, which colons cut into parts
abbrev pub value_span : ℕ → Items → Option Span
value_span scale none = Some None
value_span scale (leaf w is) = wider_of (parts_span scale (parts_of w)) (value_span scale is)
value_span scale _ = None

-- (value) .. : the span of each
abbrev pub value_spans : ℕ → Items → Option (List Span)
value_spans scale none = Some []
value_spans scale (list inner is) = joined (option_map one (value_span scale inner)) (value_spans scale is)
value_spans scale _ = None
