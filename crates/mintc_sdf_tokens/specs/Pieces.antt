-- What a reader finds of the pieces that words are cut into (`pieces_from`, `unescaped_from`).
use Rattle.std.specs.Prelude.{ℕ, suc, Bool, not, ◌&&◌, ◌==◌, if◌then◌else◌, List, [], ◌∷◌}
use Rattle.mintc_text.specs.Signs.{backslash}

-- how many bytes stand before the first divider without a backslash
abbrev pub piece_size : ℕ → Bool → List ℕ → ℕ
piece_size divider kept [] = 0
piece_size divider kept (b ∷ bs) = if not kept && (b == divider) then 0
    else suc (piece_size divider (not kept && (b == backslash)) bs)

-- a byte of a word, without the backslash that it may be
abbrev pub kept_byte : Bool → ℕ → List ℕ
kept_byte kept b = if not kept && (b == backslash) then [] else b ∷ []
