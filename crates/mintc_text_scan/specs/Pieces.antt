-- A text as pieces from left to right: tokens of some type, and what is passed over. A function says which piece is
-- at a front.
use Rattle.std.specs.Prelude.{ℕ, zero, suc, ◌-◌, Bool, true, false, List, [], ◌∷◌, ◌++◌, Option, Some, None}

-- The front of a text: a token, or what is passed over, and how many bytes it has.
pub record Piece (T : Type 0) : Type 0 where
  pub token : Option T
  pub size : ℕ

-- so many bytes that are passed over
abbrev pub passed : {T : Type 0} → ℕ → Piece T
passed n = record { token = None; size = n }

-- a token of so many bytes
abbrev pub token : {T : Type 0} → T → ℕ → Piece T
token t n = record { token = Some t; size = n }

-- the token of a piece, if it is one
abbrev pub front_token : {T : Type 0} → Option T → List T
front_token None = []
front_token (Some t) = t ∷ []

-- The tokens, where so many bytes still belong to the piece before.
unfoldable pub tokens_from : {T : Type 0} → (List ℕ → Piece T) → ℕ → List ℕ → List T
tokens_from front inside [] = []
tokens_from front (suc inside) (b ∷ bs) = tokens_from front inside bs
tokens_from front zero (b ∷ bs) = front_token (front (b ∷ bs)).token ++ tokens_from front ((front (b ∷ bs)).size - 1) bs

-- how many bytes of a piece are passed over
abbrev pub passed_by : {T : Type 0} → Option T → ℕ → ℕ
passed_by None size = size
passed_by (Some t) size = 0

-- a piece is a token
abbrev pub is_token : {T : Type 0} → Option T → Bool
is_token None = false
is_token (Some t) = true

-- A text ends, or begins with a token.
abbrev pub is_settled : {T : Type 0} → (List ℕ → Piece T) → List ℕ → Bool
is_settled front [] = true
is_settled front (b ∷ bs) = is_token (front (b ∷ bs)).token
