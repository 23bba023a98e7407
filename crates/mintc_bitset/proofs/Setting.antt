-- A place that is taken in or out, and the others.
use Rattle.std.proofs.Common.{◌≡◌, ◌≢◌, ◌<◌, ◌+◌, ◌*◌, ◌^◌, ◌/◌, ◌%◌, ◌-◌, ℕ, List, length, get_or, set, arith, ap, ◌∙◌, sym, ⊎_elim, get_or-set_same, get_or-set_other, bit_or, bit_and, w64}
use Rattle.std.proofs.lemmas.Bool.{cases_eq}
use Rattle.std.proofs.lemmas.Nat.Bits.{bit_at_set_same, bit_at_set_other, bit_at_clear_same, bit_at_clear_other}
use Rattle.std.specs.Int.{bit_at}
use Rattle.mintc_bitset.specs.BitSet.{IsIn}

-- The words with another one at the place, whose own bit is as told and whose other bits are as they were.
module _ (words : List ℕ) (place word : ℕ) (inside : place / 64 < length words)
    (rest : (bit : ℕ) → bit < 64 → bit ≢ place % 64 → bit_at word bit ≡ bit_at (get_or words (place / 64) 0) bit) where
  pub own : bit_at (get_or (set words (place / 64) word) (place / 64) 0) (place % 64) ≡ bit_at word (place % 64)
  own = ap (λ n. bit_at n (place % 64)) (get_or-set_same words (place / 64) word 0 inside)

  pub other : (x : ℕ) → x ≢ place → bit_at (get_or (set words (place / 64) word) (x / 64) 0) (x % 64) ≡ bit_at (get_or words (x / 64) 0) (x % 64)
  other x ne =
      ⊎_elim
      (λ (e : x / 64 ≡ place / 64).
      let apart : x % 64 ≢ place % 64 = omega arith in
      ap (λ k. bit_at (get_or (set words (place / 64) word) k 0) (x % 64)) e
      ∙ ap (λ n. bit_at n (x % 64)) (get_or-set_same words (place / 64) word 0 inside)
      ∙ rest (x % 64) (omega arith) apart
      ∙ ap (λ k. bit_at (get_or words k 0) (x % 64)) (sym e))
      (λ (far : x / 64 ≢ place / 64). ap (λ n. bit_at n (x % 64)) (get_or-set_other words (place / 64) (x / 64) word 0 far))
      (cases_eq (x / 64) (place / 64))

abbrev pub with_bit : List ℕ → ℕ → List ℕ
with_bit words place = set words (place / 64) (bit_or (get_or words (place / 64) 0) (1 * 2 ^ (place % 64) % 18446744073709551616))

pub set_own : (words : List ℕ) (place : ℕ) → place / 64 < length words → IsIn (with_bit words place) place
set_own words place inside =
    let low : place % 64 < 64 = omega arith in
    own words place (bit_or (get_or words (place / 64) 0) (1 * 2 ^ (place % 64) % 18446744073709551616)) inside (λ bit _ ne. bit_at_set_other w64 (get_or words (place / 64) 0) (place % 64) low bit ne)
    ∙ bit_at_set_same w64 (get_or words (place / 64) 0) (place % 64) low

pub set_other : (words : List ℕ) (place x : ℕ) → place / 64 < length words → x ≢ place →
    bit_at (get_or (with_bit words place) (x / 64) 0) (x % 64) ≡ bit_at (get_or words (x / 64) 0) (x % 64)
set_other words place x inside ne =
    let low : place % 64 < 64 = omega arith in
    other words place (bit_or (get_or words (place / 64) 0) (1 * 2 ^ (place % 64) % 18446744073709551616)) inside (λ bit _ ne. bit_at_set_other w64 (get_or words (place / 64) 0) (place % 64) low bit ne) x ne

abbrev pub without_bit : List ℕ → ℕ → List ℕ
without_bit words place = set words (place / 64) (bit_and (get_or words (place / 64) 0) (18446744073709551615 - 1 * 2 ^ (place % 64) % 18446744073709551616))

pub cleared_own : (words : List ℕ) (place : ℕ) → place / 64 < length words → bit_at (get_or (without_bit words place) (place / 64) 0) (place % 64) ≡ 0
cleared_own words place inside =
    let low : place % 64 < 64 = omega arith in
    own words place (bit_and (get_or words (place / 64) 0) (18446744073709551615 - 1 * 2 ^ (place % 64) % 18446744073709551616)) inside
    (λ bit below ne. bit_at_clear_other w64 (get_or words (place / 64) 0) (place % 64) low bit below ne)
    ∙ bit_at_clear_same w64 (get_or words (place / 64) 0) (place % 64) low

pub cleared_other : (words : List ℕ) (place x : ℕ) → place / 64 < length words → x ≢ place →
    bit_at (get_or (without_bit words place) (x / 64) 0) (x % 64) ≡ bit_at (get_or words (x / 64) 0) (x % 64)
cleared_other words place x inside ne =
    let low : place % 64 < 64 = omega arith in
    other words place (bit_and (get_or words (place / 64) 0) (18446744073709551615 - 1 * 2 ^ (place % 64) % 18446744073709551616)) inside
    (λ bit below ne. bit_at_clear_other w64 (get_or words (place / 64) 0) (place % 64) low bit below ne) x ne

pub in_word : (words : List ℕ) (word bit place : ℕ) → bit < 64 → place ≡ 64 * word + bit → bit_at (get_or words word 0) bit ≡ 1 → IsIn words place
in_word words word bit place low is one =
    let at : place / 64 ≡ word = omega arith in
    let of : place % 64 ≡ bit = omega arith in
    ap (λ n. bit_at (get_or words n 0) (place % 64)) at ∙ ap (bit_at (get_or words word 0)) of ∙ one

pub from_word : (words : List ℕ) (word bit place : ℕ) → bit < 64 → place ≡ 64 * word + bit → IsIn words place → bit_at (get_or words word 0) bit ≡ 1
from_word words word bit place low is one =
    let at : word ≡ place / 64 = omega arith in
    let of : bit ≡ place % 64 = omega arith in
    ap (λ n. bit_at (get_or words n 0) bit) at ∙ ap (bit_at (get_or words (place / 64) 0)) of ∙ one
