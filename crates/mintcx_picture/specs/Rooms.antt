-- The room of texts.
use Rattle.std.specs.Prelude.{ℕ, ◌+◌, ◌-◌, ◌*◌, ◌/◌, min, List, [], ◌∷◌, ◌++◌, length, take, drop}
use Rattle.std.specs.Prelude.{if◌then◌else◌, nat_le}

-- how wide a text of so many letters is at a size; letters beyond 100,000 count for no more
abbrev pub room : ℕ → ℕ → ℕ
room letters size = (31 * min letters 100000 * size + 49) / 50

-- the last so many bytes of a text
abbrev pub last_of : ℕ → List ℕ → List ℕ
last_of many text = drop (length text - many) text

-- A text of at most so many letters: the whole text, or else its first and its last ones with the sign of what is left
-- out between.
abbrev pub cut : List ℕ → ℕ → List ℕ
cut text most = if nat_le (length text) most then text else
    take ((most - 1) / 2) text ++ 226 ∷ 128 ∷ 166 ∷ [] ++ last_of (most - 1 - (most - 1) / 2) text
