-- The bytes that are left of a value.
use Rattle.std.proofs.Common.{◌≡◌, ℕ, suc, ◌==◌, ◌+◌, ◌-◌, ◌<◌, true, false, List, [], ◌∷◌, ◌++◌, length, take, drop, get_or, refl, sym, ap, ◌∙◌, arith, true≢false, true-eqb, append_assoc}
use Rattle.std.proofs.lemmas.List.{take_all}

pub empty : (xs : List ℕ) → true ≡ (length xs == 0) → xs ≡ []
empty [] e = refl
empty (x ∷ xs) e = let none = true-eqb (suc (length xs)) 0 e in absurd (omega (arith, none))

pub some : (xs : List ℕ) → false ≡ (length xs == 0) → 0 < length xs
some [] e = absurd (true≢false (sym e))
some (x ∷ xs) e = omega arith

-- the first byte
pub first : (xs ys : List ℕ) → 0 < length xs → xs ++ ys ≡ get_or xs 0 0 ∷ take (length xs - 1) (drop 1 xs) ++ ys
first [] ys h = absurd (omega (arith, h))
first (x ∷ xs) ys h = ap (λ zs. x ∷ zs ++ ys) (sym (take_all (suc (length xs) - 1) xs (omega arith)))

-- one more of those that are taken
pub one-taken : (n i : ℕ) (part xs ys : List ℕ) (b : ℕ) → i < n → xs ≡ b ∷ ys → (part ++ b ∷ []) ++ take (n - (i + 1)) ys ≡ part ++ take (n - i) xs
one-taken n i part xs ys b h e =
    let more : n - i ≡ suc (n - (i + 1)) = omega (arith, h) in
    append_assoc part (b ∷ []) (take (n - (i + 1)) ys) ∙ ap (λ zs. part ++ zs) (sym (ap (λ k. take k xs) more ∙ ap (take (suc (n - (i + 1)))) e))
