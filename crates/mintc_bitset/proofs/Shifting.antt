-- The lowest bit that is set in a word that is shifted down.
use Rattle.std.proofs.Common.{◌≡◌, ◌<◌, ◌≤◌, ◌^◌, ◌/◌, ◌+◌, ◌%◌, ℕ, ap, sym, ◌∙◌, arith, ⊎_elim, w64}
use Rattle.std.proofs.lemmas.Bool.{cases_lt}
use Rattle.std.proofs.lemmas.Nat.{shr-shr, shr_le}
use Rattle.std.proofs.lemmas.Nat.Bits.{bit_at-trailing_zeros, bit_at_above, bit_at-zero}
use Rattle.std.specs.Int.{bit_at, trailing_zeros}

bit_at_down : (k n i : ℕ) → bit_at (n / 2 ^ k) i ≡ bit_at n (k + i)
bit_at_down k n i = ap (λ x. x % 2) (shr-shr n k i)

module _ (word k : ℕ) (fits : word < 18446744073709551616) (some : 0 < word / 2 ^ k) where
  less : word / 2 ^ k ≤ word
  less = shr_le word k

  abbrev pub lowest : ℕ
  lowest = trailing_zeros w64 (word / 2 ^ k)

  pub is_set : bit_at word (k + lowest) ≡ 1
  is_set = let smaller = less in sym (bit_at_down k word lowest) ∙ (bit_at-trailing_zeros w64 (word / 2 ^ k) some (omega arith)).1

  pub is_within : k + lowest < 64
  is_within = ⊎_elim
      (λ low. low)
      (λ high. let none = bit_at_above word 64 (k + lowest) fits high in let one = is_set in absurd (omega arith))
      (cases_lt (k + lowest) 64)

  pub none_below : (i : ℕ) → i < lowest → bit_at word (k + i) ≡ 0
  none_below i below = let smaller = less in sym (bit_at_down k word i) ∙ (bit_at-trailing_zeros w64 (word / 2 ^ k) some (omega arith)).2 i below

-- No bit is set from there on, where nothing is left.
pub gone_above : (word k : ℕ) → word / 2 ^ k ≡ 0 → (i : ℕ) → bit_at word (k + i) ≡ 0
gone_above word k none i = sym (bit_at_down k word i) ∙ ap (λ n. bit_at n i) none ∙ bit_at-zero i
