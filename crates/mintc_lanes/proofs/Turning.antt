-- Vectors turned round by some places.
use Rattle.std.proofs.Common.{◌≡◌, ℕ, zero, suc, ◌+◌, ◌%◌, ◌<◌, ℤ, List, [], ◌∷◌, ◌++◌, length, get_or, refl, ap, ◌∙◌, arith, w64, to_z}
use Rattle.std.proofs.lemmas.Int.{to_z-of_z}
use Rattle.mintc_lanes.specs.Vectors.{IsVector, HasNumbers, number_at}
use Rattle.mintc_lanes.proofs.Selecting.{bits_of, length-bits_of, bits_at}

-- a fact of each list of eight
pub of_eight : {A : Type 0} (P : List A → Type 0) → ((a b c d e f g h : A) → P (a ∷ b ∷ c ∷ d ∷ e ∷ f ∷ g ∷ h ∷ [])) → (xs : List A) → length xs ≡ 8 → P xs
of_eight P all (a ∷ b ∷ c ∷ d ∷ e ∷ f ∷ g ∷ h ∷ []) count = all a b c d e f g h
of_eight P all [] count = absurd (omega arith)
of_eight P all (a ∷ []) count = absurd (omega arith)
of_eight P all (a ∷ b ∷ []) count = absurd (omega arith)
of_eight P all (a ∷ b ∷ c ∷ []) count = absurd (omega arith)
of_eight P all (a ∷ b ∷ c ∷ d ∷ []) count = absurd (omega arith)
of_eight P all (a ∷ b ∷ c ∷ d ∷ e ∷ []) count = absurd (omega arith)
of_eight P all (a ∷ b ∷ c ∷ d ∷ e ∷ f ∷ []) count = absurd (omega arith)
of_eight P all (a ∷ b ∷ c ∷ d ∷ e ∷ f ∷ g ∷ []) count = absurd (omega arith)
of_eight P all (a ∷ b ∷ c ∷ d ∷ e ∷ f ∷ g ∷ h ∷ i ∷ xs) count = absurd (omega arith)

-- the numbers four places on, as the code has them
abbrev pub turned_four : List ℕ → List ℤ
turned_four us = to_z w64 (get_or (us ++ us) 4 0) ∷ to_z w64 (get_or (us ++ us) 5 0) ∷ to_z w64 (get_or (us ++ us) 6 0) ∷ to_z w64 (get_or (us ++ us) 7 0) ∷ to_z w64 (get_or (us ++ us) 0 0) ∷ to_z w64 (get_or (us ++ us) 1 0) ∷ to_z w64 (get_or (us ++ us) 2 0) ∷ to_z w64 (get_or (us ++ us) 3 0) ∷ []

abbrev IsTurned_four : List ℕ → Type 0
IsTurned_four us = (k : ℕ) → k < 8 → number_at (turned_four us) k ≡ to_z w64 (get_or us ((k + 4) % 8) 0)

is_turned_four : (a b c d e f g h : ℕ) → IsTurned_four (a ∷ b ∷ c ∷ d ∷ e ∷ f ∷ g ∷ h ∷ [])
is_turned_four a b c d e f g h zero lt = refl
is_turned_four a b c d e f g h (suc zero) lt = refl
is_turned_four a b c d e f g h (suc (suc zero)) lt = refl
is_turned_four a b c d e f g h (suc (suc (suc zero))) lt = refl
is_turned_four a b c d e f g h (suc (suc (suc (suc zero)))) lt = refl
is_turned_four a b c d e f g h (suc (suc (suc (suc (suc zero))))) lt = refl
is_turned_four a b c d e f g h (suc (suc (suc (suc (suc (suc zero)))))) lt = refl
is_turned_four a b c d e f g h (suc (suc (suc (suc (suc (suc (suc zero))))))) lt = refl
is_turned_four a b c d e f g h (suc (suc (suc (suc (suc (suc (suc (suc k)))))))) lt = absurd (omega arith)

pub turned_four_at : (us : List ℕ) → length us ≡ 8 → IsTurned_four us
turned_four_at us count = of_eight IsTurned_four is_turned_four us count

-- the numbers two places on, as the code has them
abbrev pub turned_two : List ℕ → List ℤ
turned_two us = to_z w64 (get_or (us ++ us) 2 0) ∷ to_z w64 (get_or (us ++ us) 3 0) ∷ to_z w64 (get_or (us ++ us) 4 0) ∷ to_z w64 (get_or (us ++ us) 5 0) ∷ to_z w64 (get_or (us ++ us) 6 0) ∷ to_z w64 (get_or (us ++ us) 7 0) ∷ to_z w64 (get_or (us ++ us) 0 0) ∷ to_z w64 (get_or (us ++ us) 1 0) ∷ []

abbrev IsTurned_two : List ℕ → Type 0
IsTurned_two us = (k : ℕ) → k < 8 → number_at (turned_two us) k ≡ to_z w64 (get_or us ((k + 2) % 8) 0)

is_turned_two : (a b c d e f g h : ℕ) → IsTurned_two (a ∷ b ∷ c ∷ d ∷ e ∷ f ∷ g ∷ h ∷ [])
is_turned_two a b c d e f g h zero lt = refl
is_turned_two a b c d e f g h (suc zero) lt = refl
is_turned_two a b c d e f g h (suc (suc zero)) lt = refl
is_turned_two a b c d e f g h (suc (suc (suc zero))) lt = refl
is_turned_two a b c d e f g h (suc (suc (suc (suc zero)))) lt = refl
is_turned_two a b c d e f g h (suc (suc (suc (suc (suc zero))))) lt = refl
is_turned_two a b c d e f g h (suc (suc (suc (suc (suc (suc zero)))))) lt = refl
is_turned_two a b c d e f g h (suc (suc (suc (suc (suc (suc (suc zero))))))) lt = refl
is_turned_two a b c d e f g h (suc (suc (suc (suc (suc (suc (suc (suc k)))))))) lt = absurd (omega arith)

pub turned_two_at : (us : List ℕ) → length us ≡ 8 → IsTurned_two us
turned_two_at us count = of_eight IsTurned_two is_turned_two us count

-- the numbers one place on, as the code has them
abbrev pub turned_one : List ℕ → List ℤ
turned_one us = to_z w64 (get_or (us ++ us) 1 0) ∷ to_z w64 (get_or (us ++ us) 2 0) ∷ to_z w64 (get_or (us ++ us) 3 0) ∷ to_z w64 (get_or (us ++ us) 4 0) ∷ to_z w64 (get_or (us ++ us) 5 0) ∷ to_z w64 (get_or (us ++ us) 6 0) ∷ to_z w64 (get_or (us ++ us) 7 0) ∷ to_z w64 (get_or (us ++ us) 0 0) ∷ []

abbrev IsTurned_one : List ℕ → Type 0
IsTurned_one us = (k : ℕ) → k < 8 → number_at (turned_one us) k ≡ to_z w64 (get_or us ((k + 1) % 8) 0)

is_turned_one : (a b c d e f g h : ℕ) → IsTurned_one (a ∷ b ∷ c ∷ d ∷ e ∷ f ∷ g ∷ h ∷ [])
is_turned_one a b c d e f g h zero lt = refl
is_turned_one a b c d e f g h (suc zero) lt = refl
is_turned_one a b c d e f g h (suc (suc zero)) lt = refl
is_turned_one a b c d e f g h (suc (suc (suc zero))) lt = refl
is_turned_one a b c d e f g h (suc (suc (suc (suc zero)))) lt = refl
is_turned_one a b c d e f g h (suc (suc (suc (suc (suc zero))))) lt = refl
is_turned_one a b c d e f g h (suc (suc (suc (suc (suc (suc zero)))))) lt = refl
is_turned_one a b c d e f g h (suc (suc (suc (suc (suc (suc (suc zero))))))) lt = refl
is_turned_one a b c d e f g h (suc (suc (suc (suc (suc (suc (suc (suc k)))))))) lt = absurd (omega arith)

pub turned_one_at : (us : List ℕ) → length us ≡ 8 → IsTurned_one us
turned_one_at us count = of_eight IsTurned_one is_turned_one us count

-- what the code reads at a place is the number there
bits_read : (xs : List ℤ) (j : ℕ) → IsVector xs → j < 8 → to_z w64 (get_or (bits_of xs) j 0) ≡ number_at xs j
bits_read xs j p lt = let count = p.count in ap (to_z w64) (bits_at xs j (omega arith)) ∙ to_z-of_z w64 (number_at xs j) (p.fits j lt)

pub round : (k o : ℕ) → (k + o) % 8 < 8
round k o = omega arith

pub four_on : (xs : List ℤ) → IsVector xs → HasNumbers (turned_four (bits_of xs)) (λ k. number_at xs ((k + 4) % 8))
four_on xs p k lt = turned_four_at (bits_of xs) (length-bits_of xs ∙ p.count) k lt ∙ bits_read xs ((k + 4) % 8) p (round k 4)

pub two_on : (xs : List ℤ) → IsVector xs → HasNumbers (turned_two (bits_of xs)) (λ k. number_at xs ((k + 2) % 8))
two_on xs p k lt = turned_two_at (bits_of xs) (length-bits_of xs ∙ p.count) k lt ∙ bits_read xs ((k + 2) % 8) p (round k 2)

pub one_on : (xs : List ℤ) → IsVector xs → HasNumbers (turned_one (bits_of xs)) (λ k. number_at xs ((k + 1) % 8))
one_on xs p k lt = turned_one_at (bits_of xs) (length-bits_of xs ∙ p.count) k lt ∙ bits_read xs ((k + 1) % 8) p (round k 1)
