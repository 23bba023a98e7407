-- The words of a line of bytes.
use Rattle.std.specs.Prelude.{◌≡◌, ◌≤◌, ◌<◌, ℕ, ℤ, pos, negsuc, List, length, slice_index}
use Rattle.mintc_text.specs.Lines.{IsGraphic, IsWithin}

-- No graphic byte stands at a place of a line.
abbrev pub IsBlankAt : List ℕ → ℕ → Type 0
IsBlankAt line at = at < length line → IsGraphic (slice_index line at) → ⊥

-- The longest run of graphic bytes at a place of a line, which isn't empty: from its first byte to one past its last.
pub record IsWordAt (line : List ℕ) (at first past : ℕ) : Type 0 where
  pub begins : first ≡ at
  pub some : at < past
  pub within : past ≤ length line
  pub graphic : (k : ℕ) → at ≤ k → k < past → IsGraphic (slice_index line k)
  pub ends : IsBlankAt line past

-- The numeral of a number has at most 19 digits.
abbrev pub IsShort : ℤ → Type 0
IsShort z = IsWithin (negsuc 9999999999999999998) (pos 9999999999999999999) z
