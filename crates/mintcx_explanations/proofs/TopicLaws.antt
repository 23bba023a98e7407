-- Topics that name a refusal, and topics that name none.
use Rattle.std.proofs.Common.{◌≡◌, ◌∙◌, ◌≢◌, ℕ, ℤ, pos, List, ◌++◌, Bor, Option, None, Some, MatchOption, codes, decimal, sym, ap, arith, of_z, w64}
use Rattle.std.proofs.lemmas.Grind.{common_steps}
use Rattle.std.proofs.lemmas.Fmt.{decimal_injective}
use Rattle.std.proofs.lemmas.List.{append_cancel_left}
use Rattle.mintc_text.specs.Lines.{IsWithin, numeral_of}
use Rattle.mintcx_explanations.specs.Explanations.{IsRefusalNumber}

-- what is no numeral from 1 to 22
pub no_numeral : (word : List ℕ) → ((z : ℤ) → IsWithin (pos 1) (pos 22) z → word ≡ numeral_of z → ⊥) →
    (n : ℕ) → IsRefusalNumber n → word ≡ decimal n → ⊥
no_numeral word none n is same =
    let within : IsWithin (pos 1) (pos 22) (pos n) = grind (arith, common_steps, is.0, is.1) in
    none (pos n) within same

-- a number from 1 to 22 that is 20 as a machine's word
twenty_read : (z : ℤ) → IsWithin (pos 1) (pos 22) z → of_z w64 z ≡ 20 → z ≡ pos 20
twenty_read z within same = grind (arith, common_steps, within.0, within.1, same)

-- the numeral of 20
pub twenty : (word : List ℕ) (z : ℤ) → IsWithin (pos 1) (pos 22) z → word ≡ numeral_of z → of_z w64 z ≡ 20 →
    (n : ℕ) → IsRefusalNumber n → word ≡ decimal n → ⊥
twenty word z within said same n is other =
    is.2 (decimal_injective n 20 (omega (arith, is.1)) (omega arith) (sym other ∙ said ∙ ap numeral_of (twenty_read z within same)))

-- what stands behind the front of a topic in brackets, and ends as one does
pub in_front : (topic rest : List ℕ) (r : Option (Bor (List ℕ))) → topic ≡ codes "error[" ++ rest →
    MatchOption r ((front : List ℕ) → rest ≢ front ++ codes "]") (λ x. rest ≡ x.now ++ codes "]") →
    MatchOption r ((inner : List ℕ) → topic ≡ codes "error[" ++ (inner ++ codes "]") → ⊥)
    (λ x. topic ≡ codes "error[" ++ (x.now ++ codes "]"))
in_front topic rest None is h = λ inner same. h inner (append_cancel_left (codes "error[") rest (inner ++ codes "]") (sym is ∙ same))
in_front topic rest (Some x) is h = is ∙ ap (λ (v : List ℕ). codes "error[" ++ v) h
