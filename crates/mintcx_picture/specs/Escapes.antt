-- Texts in which no sign is read as SVG.
use Rattle.std.specs.Prelude.{ℕ, ◌==◌, ◌≢◌, ◌≡◌, ◌⊎◌, List, [], ◌∷◌, flat_map, codes, if◌then◌else◌, All, Contains}

-- how a byte of a text is written: each of the five signs of SVG by the name of its entity, all else as it is
abbrev pub escape_of : ℕ → List ℕ
escape_of byte =
    if byte == 38 then codes "&amp;" else
    if byte == 60 then codes "&lt;" else
    if byte == 62 then codes "&gt;" else
    if byte == 34 then codes "&quot;" else
    if byte == 39 then codes "&#39;" else
    byte ∷ []

-- a text with its signs escaped
abbrev pub escaped : List ℕ → List ℕ
escaped text = flat_map escape_of text

-- the entities of the five signs
abbrev pub entities : List (List ℕ)
entities = codes "&amp;" ∷ codes "&lt;" ∷ codes "&gt;" ∷ codes "&quot;" ∷ codes "&#39;" ∷ []

-- A byte is none of the five signs.
pub record IsPlain (byte : ℕ) : Type 0 where
  pub ampersand : byte ≢ 38
  pub less : byte ≢ 60
  pub greater : byte ≢ 62
  pub quote : byte ≢ 34
  pub apostrophe : byte ≢ 39

-- A piece of a text is one byte that is no sign, or one entity.
abbrev pub IsPiece : List ℕ → Type 0
IsPiece piece = ((byte : ℕ) × IsPlain byte × (piece ≡ byte ∷ [])) ⊎ Contains entities piece

-- A text is harmless where it is made of such pieces: then no sign of SVG stands in it but as an entity.
abbrev pub IsHarmless : List ℕ → Type 0
IsHarmless text = (pieces : List (List ℕ)) × All IsPiece pieces × (text ≡ flat_map (λ piece. piece) pieces)
