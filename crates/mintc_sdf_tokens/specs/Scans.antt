-- A text and a place in it.
use Rattle.std.specs.Prelude.{◌≡◌, ◌≤◌, ℕ, List, drop}
use Rattle.mintc_sdf_tokens.specs.Tokens.{Token, tokens_of}

-- A text, a place in it, and the tokens from there on.
pub record Scan : Type 0 where
  pub text : List ℕ
  pub place : ℕ
  pub tokens : List Token

-- a text from a place on
abbrev pub scan_at : List ℕ → ℕ → Scan
scan_at text place = record { text = text; place = place; tokens = tokens_of (drop place text) }

-- the same text, at no earlier place
pub record IsAhead (before after : Scan) : Type 0 where
  pub same : after.text ≡ before.text
  pub later : before.place ≤ after.place
