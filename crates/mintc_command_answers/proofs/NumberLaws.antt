-- Canonical numerals of numbers of 64 bits.
use Rattle.std.proofs.Common.{◌≡◌, ◌≢◌, ◌<◌, ◌≤◌, ◌^◌, ℕ, zero, suc, List, [], ◌∷◌, length, get_or, drop, cond, Bool, Result, Ok, Err, decimal, ap, ◌∙◌, sym, subst, arith, refl}
use Rattle.std.specs.Str.Parse.{AllDigits, ParsesUnsigned, digits_value, without_leading_plus}
use Rattle.std.proofs.lemmas.Fmt.{decimal_digit, decimal_nonempty, first_decimal, decimal-digits_value, parse-decimal}
use Rattle.std.proofs.lemmas.Bool.{ne_eqb}
use Rattle.std.proofs.lemmas.Str.Parse.{IsNumeralModel, numerals_by_value, tells_digits}

own : IsNumeralModel (AllDigits 10) (digits_value 10)
own = numerals_by_value (AllDigits 10) tells_digits

-- how a numeral begins
pub record IsCanonical (ds : List ℕ) : Type 0 where
  pub some : 0 < length ds
  pub first : 48 ≤ get_or ds 0 0
  pub alone : get_or ds 0 0 ≡ 48 → length ds ≡ 1

decimal_is_canonical : (n : ℕ) → n < 2 ^ 64 → IsCanonical (decimal n)
decimal_is_canonical zero small =
    let is : decimal 0 ≡ 48 ∷ [] = decimal_digit 0 (omega arith) in
    record { some = decimal_nonempty 0 small; first = rw is (omega arith); alone = λ e. ap length is }
decimal_is_canonical (suc n) small =
    let first = first_decimal (suc n) (omega arith) small in
    record { some = decimal_nonempty (suc n) small; first = omega (arith, first); alone = λ e. omega (arith, first, e) }

pub canonical : (bytes word : List ℕ) (n : ℕ) → bytes ≡ word → n < 2 ^ 64 → word ≡ decimal n → IsCanonical bytes
canonical bytes word n same small e = subst IsCanonical (sym (same ∙ e)) (decimal_is_canonical n small)

no_plus : (ds : List ℕ) → get_or ds 0 0 ≢ 43 → without_leading_plus ds ≡ ds
no_plus [] h = refl
no_plus (d ∷ ds) h = ap (λ (b : Bool). drop (cond b 1 0) (d ∷ ds)) (ne_eqb d 43 h)

-- What is read of bytes that don't begin with a plus, nor with a zero unless that is all.
read : (ds : List ℕ) (n : ℕ) → get_or ds 0 0 ≢ 43 → (get_or ds 0 0 ≡ 48 → length ds ≤ 1) → ParsesUnsigned {E = ℕ} 64 10 ds (Ok n) → ds ≡ decimal n
read ds n plus alone h =
    let bare : without_leading_plus ds ≡ ds = no_plus ds plus in
    let g : ParsesUnsigned {E = ℕ} 64 10 ds (Ok n) = h in
    let some : 0 < length ds = rw bare at g.0.0.0 in
    let digits : AllDigits 10 ds = rw bare at g.0.0.1 in
    let small : digits_value 10 ds < 2 ^ 64 = rw bare at g.0.1 in
    let value : n ≡ digits_value 10 ds = rw bare at g.1 in
    let first : get_or ds 0 0 ≡ 48 → length ds ≡ 1 = λ e. let most = alone e in omega (arith, some, most) in
    sym (decimal-digits_value own ds digits some first small) ∙ ap decimal (sym value)

pub number_read : {E : Type 0} (r : Result ℕ E) (bytes word : List ℕ) (n : ℕ) → r ≡ Ok n → bytes ≡ word → get_or bytes 0 0 ≢ 43 → (get_or bytes 0 0 ≡ 48 → length bytes ≤ 1) →
    ParsesUnsigned 64 10 word r → word ≡ decimal n
number_read {E} r bytes word n is same plus alone parses =
    let R : Result ℕ E → Type 0 = λ x. ParsesUnsigned 64 10 word x in
    let h : ParsesUnsigned {E = ℕ} 64 10 word (Ok n) = subst R is parses in
    let P : List ℕ → Type 0 = λ x. get_or x 0 0 ≢ 43 in
    let Q : List ℕ → Type 0 = λ x. get_or x 0 0 ≡ 48 → length x ≤ 1 in
    read word n (subst P same plus) (subst Q same alone) h

pub no_number : (word : List ℕ) → ParsesUnsigned {E = ℕ} 64 10 word (Err 0) → (n : ℕ) → n < 2 ^ 64 → word ≡ decimal n → ⊥
no_number word h n small e = let both : ◌≡◌ {A = Result ℕ ℕ} (Err 0) (Ok n) = parse-decimal 64 n word (Err 0) small small e h in cc
