-- Escaped texts are harmless.
use Rattle.std.proofs.Common.{◌≡◌, ◌≢◌, ℕ, List, [], ◌∷◌, ◌++◌, refl, ap, arith, inl, inr}
use Rattle.std.specs.Prelude.{flat_map, map, All}
use Rattle.std.proofs.lemmas.Bool.{cases_eq, ne_eqb}
use Rattle.std.proofs.lemmas.List.Elements.{All-nil, All-cons}
use Rattle.mintcx_picture.specs.Escapes.{escape_of, escaped, IsHarmless, IsPiece}

-- a byte that is no sign is written as it is
pub plain : (byte : ℕ) → byte ≢ 38 → byte ≢ 60 → byte ≢ 62 → byte ≢ 34 → byte ≢ 39 → escape_of byte ≡ byte ∷ []
plain byte a b c d e = rw (ne_eqb byte 38 a, ne_eqb byte 60 b, ne_eqb byte 62 c, ne_eqb byte 34 d, ne_eqb byte 39 e) refl

-- each byte is written as one piece
piece_of : (byte : ℕ) → IsPiece (escape_of byte)
piece_of byte =
    elim (cases_eq byte 38) [
      | inl h ↦ rw h (inr (0, omega arith, refl))
      | inr a ↦ elim (cases_eq byte 60) [
        | inl h ↦ rw h (inr (1, omega arith, refl))
        | inr b ↦ elim (cases_eq byte 62) [
          | inl h ↦ rw h (inr (2, omega arith, refl))
          | inr c ↦ elim (cases_eq byte 34) [
            | inl h ↦ rw h (inr (3, omega arith, refl))
            | inr d ↦ elim (cases_eq byte 39) [
              | inl h ↦ rw h (inr (4, omega arith, refl))
              | inr e ↦ inl (byte, record { ampersand = a; less = b; greater = c; quote = d; apostrophe = e }, plain byte a b c d e)
            ]
          ]
        ]
      ]
    ]

pieces_of : (text : List ℕ) → All IsPiece (map escape_of text)
pieces_of [] = All-nil IsPiece
pieces_of (byte ∷ text) = All-cons IsPiece (escape_of byte) (map escape_of text) (piece_of byte) (pieces_of text)

joined : (text : List ℕ) → escaped text ≡ flat_map (λ (piece : List ℕ). piece) (map escape_of text)
joined [] = refl
joined (byte ∷ text) = ap (λ (v : List ℕ). escape_of byte ++ v) (joined text)

pub harmless : (text : List ℕ) → IsHarmless (escaped text)
harmless text = (map escape_of text, pieces_of text, joined text)
