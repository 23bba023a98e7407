-- Marks that are set, and that are joined.
use Rattle.std.proofs.Common.{◌≡◌, ◌≢◌, ◌<◌, ◌*◌, ◌^◌, ◌/◌, ◌%◌, ℕ, List, length, get_or, set, arith, ap, ◌∙◌, get_or-set_same, get_or-set_other, bit_or, w64}
use Rattle.std.proofs.lemmas.Nat.Bits.{bit_at_set_same, bit_at_set_other}
use Rattle.std.specs.Int.{bit_at}

-- the words with one bit more
abbrev pub with_bit : List ℕ → ℕ → ℕ → List ℕ
with_bit words word bit = set words word (bit_or (get_or words word 0) (1 * 2 ^ bit % 18446744073709551616))

pub set_own : (words : List ℕ) (lane : ℕ) → lane / 64 < length words → bit_at (get_or (with_bit words (lane / 64) (lane % 64)) (lane / 64) 0) (lane % 64) ≡ 1
set_own words lane inside =
    let low : lane % 64 < 64 = omega arith in
    ap (λ n. bit_at n (lane % 64)) (get_or-set_same words (lane / 64) (bit_or (get_or words (lane / 64) 0) (1 * 2 ^ (lane % 64) % 18446744073709551616)) 0 inside)
    ∙ bit_at_set_same w64 (get_or words (lane / 64) 0) (lane % 64) low

pub set_other : (words : List ℕ) (lane other : ℕ) → lane / 64 < length words → other ≢ lane →
    bit_at (get_or (with_bit words (lane / 64) (lane % 64)) (other / 64) 0) (other % 64) ≡ bit_at (get_or words (other / 64) 0) (other % 64)
set_other words lane other inside ne =
    let low : lane % 64 < 64 = omega arith in
    let new : ℕ = bit_or (get_or words (lane / 64) 0) (1 * 2 ^ (lane % 64) % 18446744073709551616) in
    grind (arith, get_or-set_same words (lane / 64) new 0 inside, get_or-set_other words (lane / 64) (other / 64) new 0, bit_at_set_other w64 (get_or words (lane / 64) 0) (lane % 64) low (other % 64))
