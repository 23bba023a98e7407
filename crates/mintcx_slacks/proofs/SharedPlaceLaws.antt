-- Places are those of pairs.
use Rattle.std.proofs.Common.{◌≡◌, ℕ, zero, suc, ◌<◌, ◌≤◌, ◌+◌, ℤ, pos, List, [], ◌∷◌, length, map, arith, subst}
use Rattle.std.specs.Prelude.{All}
use Rattle.std.specs.List.{range_with_len}
use Rattle.std.proofs.lemmas.List.Elements.{All-nil, All-cons, All-map}
use Rattle.std.proofs.lemmas.List.Sorted.{All-permutation}
use Rattle.mintcx_slacks.specs.Slacks.{AreBySlack, place_of}

-- what holds of each number of a range
All-range : (Q : ℕ → Type 0) (a n : ℕ) → ((k : ℕ) → a ≤ k → k < a + n → Q k) → All Q (range_with_len a n)
All-range Q a zero each = All-nil Q
All-range Q a (suc n) each =
    All-cons Q a (range_with_len (a + 1) n) (each a (omega arith) (omega arith)) (All-range Q (a + 1) n (λ k low high. each k (omega arith) (omega arith)))

inside_extra : (extra : List ℤ) (places : List (ℤ × ℕ)) → AreBySlack extra places → All (λ (p : ℤ × ℕ). p.1 < length extra) places
inside_extra extra places h =
    All-permutation (λ (p : ℤ × ℕ). p.1 < length extra) (map (place_of extra) (range_with_len 0 (length extra))) places h.permutation
    (All-map (λ (p : ℤ × ℕ). p.1 < length extra) (place_of extra) (range_with_len 0 (length extra)) (All-range (λ n. n < length extra) 0 (length extra) (λ k low high. omega (arith, high))))

pub by_slack_inside : (extra : List ℤ) (places : List (ℤ × ℕ)) (n : ℕ) → AreBySlack extra places → length extra ≡ n → All (λ (p : ℤ × ℕ). p.1 < n) places
by_slack_inside extra places n h e = subst (λ m. All (λ (p : ℤ × ℕ). p.1 < m) places) e (inside_extra extra places h)
