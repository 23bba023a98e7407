-- Words, names, numbers and counts of a line.
use Rattle.std.specs.Prelude.{◌≡◌, ◌≤◌, ◌==◌, ◌&&◌, ℕ, ℤ, ◌≤ℤ◌, Bool, true, false, if◌then◌else◌, nat_le, List, [], ◌∷◌}
use Rattle.std.specs.Prelude.{length, All, decimal}
use Rattle.std.specs.List.{slice_split}
use Rattle.mintc_text.specs.Signs.{space}
use Rattle.mintc_text.specs.declared.limits.TheConstants.{MOST_COUNT}
use Rattle.mintc_text.specs.Lines.{words, numeral_of, IsGraphic, IsWithin}
use Rattle.mintc_timing.specs.Limits.{IsDelay}

-- A count is from 0 to MOST_COUNT.
abbrev pub IsCount : ℕ → Type 0
IsCount n = n ≤ MOST_COUNT

-- a number from 0 on, in decimal digits
abbrev pub number : ℕ → List ℕ
number n = decimal n

-- a name of 1 to 1,000 bytes that can be seen
pub record IsName (name : List ℕ) : Type 0 where
  pub some : 1 ≤ length name
  pub most : length name ≤ 1000
  pub graphic : All IsGraphic name

-- a least and a greatest delay
pub record AreDelays (low high : ℤ) : Type 0 where
  pub low_is : IsDelay low
  pub high_is : IsDelay high
  pub ordered : low ≤ℤ high

-- the words of a line, between its spaces
abbrev pub fields_of : List ℕ → List (List ℕ)
fields_of line = slice_split (λ b. b == space) line

-- the words that are left of a line: none once the last was read
abbrev pub fields_left : Bool → List ℕ → List (List ℕ)
fields_left done rest = if done then [] else fields_of rest

-- whether each byte of a word can be seen
abbrev pub plain : List ℕ → Bool
plain [] = true
plain (b ∷ bs) = (nat_le 33 b && nat_le b 126) && plain bs

-- whether a line is made of one such word or more
abbrev pub plain_line : List (List ℕ) → Bool
plain_line [] = false
plain_line (w ∷ []) = plain w
plain_line (w ∷ x ∷ ws) = plain w && plain_line (x ∷ ws)

-- a line of a word alone
abbrev pub IsWordLine : List ℕ → Unit {0} → List (List ℕ) → Type 0
IsWordLine word u ws = ws ≡ word ∷ []

-- a line of a word and a number from least to most
abbrev pub IsNumberLine : List ℕ → ℤ → ℤ → ℤ → List (List ℕ) → Type 0
IsNumberLine word least most z ws = IsWithin least most z × (ws ≡ word ∷ numeral_of z ∷ [])

-- a line of a word and a number from least to most, none of which is below 0
abbrev pub IsCountLine : List ℕ → ℕ → ℕ → ℕ → List (List ℕ) → Type 0
IsCountLine word least most n ws = (least ≤ n) × (n ≤ most) × (ws ≡ word ∷ number n ∷ [])

-- a line of a word and a name
abbrev pub IsNameLine : List ℕ → List ℕ → List (List ℕ) → Type 0
IsNameLine word name ws = IsName name × (ws ≡ word ∷ name ∷ [])

-- The line is made of the words that spell the value.
abbrev pub Spells : {V : Type 0} → (V → List (List ℕ) → Type 0) → V → List ℕ → Type 0
Spells F v line = (ws : List (List ℕ)) × F v ws × (line ≡ words ws)
