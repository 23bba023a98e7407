-- What a reader finds of values, part by part; what they stand for is said in Forms.antt (`value_of`, `values_of`).
use Rattle.std.specs.Prelude.{ℕ, ◌+◌, nat_le, ◌&&◌, ◌==◌, if◌then◌else◌, List, Option, Some, None}
use Rattle.std.specs.List.{position_or_len}
use Rattle.mintc_text.specs.Signs.{colon}
use Rattle.mintc_decimal.specs.Decimals.{Number}
use Rattle.mintc_sdf_tokens.specs.Items.{Items, none, leaf, count}
use Rattle.mintc_sdf.specs.Forms.{all_values, value_word}

-- how many bytes stand before the first colon
abbrev pub colon_size : List ℕ → ℕ
colon_size bs = position_or_len (λ b. b == colon) bs

-- values, where so many stand before
abbrev pub values_from : ℕ → Items → Option (List Number)
values_from n is = if nat_le 1 (n + count is) && nat_le (n + count is) 12 then all_values is else None

-- the words of a value behind one
abbrev pub value_behind : List ℕ → Items → Option (List ℕ)
value_behind w is = value_word (leaf w is)

-- nothing more
abbrev pub only : {A : Type 0} → A → Items → Option A
only a none = Some a
only a _ = None
