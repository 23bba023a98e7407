-- A byte among the lanes of a load.
use Rattle.std.proofs.Common.{◌≡◌, ℕ, ◌+◌, ◌%◌, ◌^◌, ◌<◌, ◌≤◌, List, cond, eqb, length, get_or, map, replicate, sym, ap, ◌∙◌, arith, w8}
use Rattle.std.specs.Simd.Lanes.{zip2, mask_l, top, chunk}
use Rattle.std.proofs.lemmas.Simd.{length-chunk, bitmask_splat, none_from_empty_mask, trailing_mask_l, run_in_chunk_le, run_in_chunk_fails, run_in_chunk_stops}
use Rattle.std.proofs.lemmas.Bool.{eqb-true, eqb-false}
use lib.Count.{count_trailing_zeros}

-- what the comparison of n bytes with a byte gives: bit k tells of the byte at k
abbrev pub marks : ℕ → List ℕ → ℕ → ℕ → ℕ
marks byte bytes at n = mask_l (map (top 7) (zip2 (λ a b. cond (eqb a b) 255 0) (chunk at n bytes) (replicate n byte))) % 2 ^ 64

marks_are : (byte : ℕ) (bytes : List ℕ) (at n : ℕ) → at + n ≤ length bytes → n ≤ 64 → marks byte bytes at n ≡ mask_l (map (λ x. eqb x byte) (chunk at n bytes))
marks_are byte bytes at n room few = bitmask_splat w8 eqb (chunk at n bytes) n byte (length-chunk at n bytes room) few

-- where no bit is set, the byte is none of them
pub none_marked : (byte : ℕ) (bytes : List ℕ) (at n : ℕ) → at + n ≤ length bytes → n ≤ 64 → marks byte bytes at n ≡ 0 →
    (k : ℕ) → at ≤ k → k < at + n → get_or bytes k 0 ≡ byte → ⊥
none_marked byte bytes at n room few none k low high =
    let empty = sym (marks_are byte bytes at n room few) ∙ none in
    eqb-false (get_or bytes k 0) byte (none_from_empty_mask (λ x. eqb x byte) bytes at n 0 room empty k low high)

-- r of n bytes stand before the first that is this one
pub record IsAhead (byte : ℕ) (bytes : List ℕ) (at n r : ℕ) : Type 0 where
  pub within : r ≤ n
  pub none_before : (k : ℕ) → at ≤ k → k < at + r → get_or bytes k 0 ≡ byte → ⊥
  pub here : r < n → get_or bytes (at + r) 0 ≡ byte

positive : (m : ℕ) → (m ≡ 0 → ⊥) → 0 < m
positive m some = omega (arith, some)

-- the lowest bit that is set tells of the first of them
pub first_marked : (byte : ℕ) (bytes : List ℕ) (at n : ℕ) → at + n ≤ length bytes → n ≤ 64 → (marks byte bytes at n ≡ 0 → ⊥) →
    IsAhead byte bytes at n (count_trailing_zeros 64 (marks byte bytes at n))
first_marked byte bytes at n room few some =
    let p = λ (x : ℕ). eqb x byte in
    let ms = mask_l (map p (chunk at n bytes)) in
    let is : marks byte bytes at n ≡ ms = marks_are byte bytes at n room few in
    let set : 0 < ms = positive ms (λ e. some (is ∙ e)) in
    let counted = ap (count_trailing_zeros 64) is ∙ trailing_mask_l p 64 (chunk at n bytes) (omega (arith, length-chunk at n bytes room)) set in
    let r = count_trailing_zeros 64 (marks byte bytes at n) in
    record {
      within = run_in_chunk_le p bytes at n r 0 room counted;
      none_before = λ k low high. eqb-false (get_or bytes k 0) byte (run_in_chunk_fails p bytes at n r 0 room counted k low high);
      here = λ more. eqb-true (get_or bytes (at + r) 0) byte (run_in_chunk_stops p bytes at n r 0 room counted more);
    }
