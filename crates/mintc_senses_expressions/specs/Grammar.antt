-- How expressions are written.
use Rattle.std.specs.Prelude.{ℕ, suc, Bool, true, false, if◌then◌else◌, List, [], ◌∷◌, ◌++◌, codes, bytes_eq}
use Rattle.mintc_senses_expressions.specs.declared.signs.Sign.TheVariants as kind
use Rattle.mintc_senses_expressions.specs.Symbols.{Symbol, word, sign, symbols_of}
use Rattle.mintc_senses_expressions.specs.Expressions.{Expression, named, fixed, inverse, both, either, exclusive}

-- what a word stands for: `0` and `1` are constants, each other one is a name
abbrev pub of_word : List ℕ → Expression
of_word w =
    if bytes_eq w (codes "0") then fixed false
    else (if bytes_eq w (codes "1") then fixed true
    else named w)

-- How closely an expression holds together, the closest last: or, and, exclusive or, `'` behind, `!` before, and a
-- word or parentheses.
pub data Strength : Type 0 where
  alternatives : Strength
  terms : Strength
  differences : Strength
  primed : Strength
  signed : Strength
  plain : Strength

-- The symbols that write an expression of a strength, with parentheses at most so deep. What holds together more
-- closely is one of a lesser strength by itself. Two `!` side by side cancel each other.
pub data Writes : ℕ → Strength → Expression → List Symbol → Type 0 where
  a_word : (room : ℕ) (w : List ℕ) → Writes room plain (of_word w) (word w ∷ [])
  in_parentheses : (room : ℕ) (e : Expression) (ys : List Symbol) → Writes room alternatives e ys →
      Writes (suc room) plain e (sign kind.Opening ∷ ys ++ sign kind.Closing ∷ [])
  unsigned : (room : ℕ) (e : Expression) (ys : List Symbol) → Writes room plain e ys → Writes room signed e ys
  inverted : (room : ℕ) (e : Expression) (ys : List Symbol) → Writes room plain e ys →
      Writes room signed (inverse e) (sign kind.Inversion ∷ ys)
  twice : (room : ℕ) (e : Expression) (ys : List Symbol) → Writes room signed e ys →
      Writes room signed e (sign kind.Inversion ∷ sign kind.Inversion ∷ ys)
  unprimed : (room : ℕ) (e : Expression) (ys : List Symbol) → Writes room signed e ys → Writes room primed e ys
  with_prime : (room : ℕ) (e : Expression) (ys : List Symbol) → Writes room primed e ys →
      Writes room primed (inverse e) (ys ++ sign kind.Prime ∷ [])
  one_difference : (room : ℕ) (e : Expression) (ys : List Symbol) → Writes room primed e ys →
      Writes room differences e ys
  more_differences : (room : ℕ) (e f : Expression) (ys zs : List Symbol) → Writes room differences e ys →
      Writes room primed f zs → Writes room differences (exclusive e f) (ys ++ sign kind.Exclusive ∷ zs)
  one_term : (room : ℕ) (e : Expression) (ys : List Symbol) → Writes room differences e ys → Writes room terms e ys
  more_terms : (room : ℕ) (e f : Expression) (ys zs : List Symbol) → Writes room terms e ys →
      Writes room differences f zs → Writes room terms (both e f) (ys ++ sign kind.Conjunction ∷ zs)
  neighbours : (room : ℕ) (e f : Expression) (ys zs : List Symbol) → Writes room terms e ys →
      Writes room differences f zs → Writes room terms (both e f) (ys ++ zs)
  one_alternative : (room : ℕ) (e : Expression) (ys : List Symbol) → Writes room terms e ys →
      Writes room alternatives e ys
  more_alternatives : (room : ℕ) (e f : Expression) (ys zs : List Symbol) → Writes room alternatives e ys →
      Writes room terms f zs → Writes room alternatives (either e f) (ys ++ sign kind.Disjunction ∷ zs)

-- A text is an expression, with parentheses at most 64 deep.
abbrev pub IsExpressionOf : List ℕ → Expression → Type 0
IsExpressionOf text e = Writes 64 alternatives e (symbols_of text)
