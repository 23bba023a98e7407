-- What a text of a number begins with, byte by byte.
use Rattle.std.proofs.Common.{◌≡◌, ◌∙◌, ℕ, ◌<◌, ◌≤◌, ◌/◌, ◌%◌, ◌+◌, List, [], ◌∷◌, ◌++◌, codes, decimal, subst, sym, ap, arith}
use Rattle.std.proofs.lemmas.Fmt.{decimal_digit, decimal_step}
use Rattle.mintcx_explanations.specs.Explanations.{BeginsWith, IsOfNumber}

-- a number of one digit
pub of_digit : (n : ℕ) (text : List ℕ) → n < 10 → BeginsWith ((48 + n) ∷ codes ": ") text → IsOfNumber n text
of_digit n text small h = subst (λ (d : List ℕ). BeginsWith (d ++ codes ": ") text) (sym (decimal_digit n small)) h

-- a number of two digits
pub of_two_digits : (n : ℕ) (text : List ℕ) → 10 ≤ n → n < 100 →
    BeginsWith ((48 + n / 10) ∷ (48 + n % 10) ∷ codes ": ") text → IsOfNumber n text
of_two_digits n text large small h =
    let same : decimal n ≡ (48 + n / 10) ∷ (48 + n % 10) ∷ [] =
    decimal_step n large (omega arith) ∙ ap (λ (d : List ℕ). d ++ (48 + n % 10) ∷ []) (decimal_digit (n / 10) (omega arith)) in
    subst (λ (d : List ℕ). BeginsWith (d ++ codes ": ") text) (sym same) h
