-- the sum round a loop, which has few pairs
use Rattle.std.proofs.Common.{◌≡◌, ◌≢◌, ℕ, ◌+◌, ◌<◌, ◌≤◌, ℤ, ◌+ℤ◌, ◌*◌, List, length, get_or, take, map, arith, sym, ap, ◌∙◌, SFits, w64, to_z, of_z}
use Rattle.std.specs.List.{All, AllPairs}
use Rattle.std.proofs.lemmas.Int.{ints, to_z-of_z}
use Rattle.std.proofs.lemmas.Bool.Decides.{Decides-eqb}
use Rattle.std.proofs.lemmas.List.{get_or-map, length-map, take_more}
use Rattle.std.proofs.lemmas.Map.Made.{IsDistinct-from_AllPairs}
use Rattle.std.proofs.lemmas.Map.Steps.{length-le_from_distinct_below}
use Rattle.std.proofs.lemmas.Map.Views.{Contains-from_any}
use Rattle.mintc_text.specs.declared.limits.TheConstants.{MOST_ELEMENTS}
use Rattle.mintc_graph_walks.specs.Bounds.{IsWithin}
use Rattle.mintc_graph.specs.Rings.{total}
use Rattle.mintc_timing.specs.Design.{Timing, element_count, pair_at, no_pair}
use Rattle.mintc_timing.specs.Limits.{IsTime}
use Rattle.mintc_timing.specs.Paths.{HasExtremes}
use Rattle.mintc_timing.specs.Violations.{IsLoop}
use Rattle.mintc_graph.proofs.SharedRingLaws.{total-push}
use Rattle.mintc_timing.proofs.SharedFitting.{read_time}

-- numbers below n, no two of them equal, are at most n
few_distinct : (n : ℕ) (xs : List ℕ) → AllPairs (λ x y. x ≢ y) xs → All (λ x. x < n) xs → length xs ≤ n
few_distinct n xs apart below =
    length-le_from_distinct_below xs n (IsDistinct-from_AllPairs Decides-eqb xs apart)
    (λ q h. let at = Contains-from_any (λ x y e. (Decides-eqb x y).0 e) q xs h in let b : get_or xs at.0 q < n = below at.0 q at.1 in let e : get_or xs at.0 q ≡ q = at.2 in omega arith)

abbrev from_of : Timing → ℕ → ℕ
from_of t n = (pair_at t n).from

-- A loop has at most a pair for each element, since it meets no element twice.
pub few_pairs : (t : Timing) (loop : List ℕ) → All (HasExtremes t.flat) t.pairs → IsLoop t loop → length loop ≤ element_count t.flat
few_pairs t loop extremes ring = let few = few_distinct (element_count t.flat) (map (from_of t) loop) apart below in omega (arith, length-map loop (from_of t))
  where
    at : (k d : ℕ) → k < length loop → get_or (map (from_of t) loop) k d ≡ (pair_at t (get_or loop k 0)).from
    at k d h = get_or-map (from_of t) loop k 0 d h

    apart : AllPairs (λ x y. x ≢ y) (map (from_of t) loop)
    apart i j d lt within =
        let k : j < length loop = omega (arith, length-map loop (from_of t)) in
        λ e. ring.once i j 0 lt k (sym (at i d (omega arith)) ∙ e ∙ at j d k)

    below : All (λ x. x < element_count t.flat) (map (from_of t) loop)
    below k d within =
        let h : k < length loop = omega (arith, length-map loop (from_of t)) in
        let b = (extremes (get_or loop k 0) no_pair (ring.exist k 0 h)).from in
        omega (arith, at k d h)

-- the sum with one more number, as at a turn of a loop
pub total-more : (f : ℕ → ℤ) (xs : List ℕ) (i d : ℕ) → i < length xs → total f (take (i + 1) xs) ≡ total f (take i xs) +ℤ f (get_or xs i d)
total-more f xs i d h = ap (total f) (take_more xs i d h) ∙ total-push f (take i xs) (get_or xs i d)

-- the delay of a pair, with the shift between its phases
abbrev pub IsTravel : ℤ → Type 0
IsTravel x = IsWithin 400000000000000 x

-- a sum of fewer travels than there may be elements, and one more
pub sum-within : (i : ℕ) (x y : ℤ) → IsWithin (i * 400000000000000) x → IsTravel y → IsWithin ((i + 1) * 400000000000000) (x +ℤ y)
sum-within i x y h k = (omega (arith, ints), omega (arith, ints))

pub sum-fits : (i : ℕ) (x y : ℤ) → i < MOST_ELEMENTS → IsWithin (i * 400000000000000) x → IsTravel y → SFits w64 (x +ℤ y)
sum-fits i x y lt h k = omega (arith, ints)

pub read_sum : (i : ℕ) (x y : ℤ) → i < MOST_ELEMENTS → IsWithin (i * 400000000000000) x → IsTravel y → to_z w64 (of_z w64 (x +ℤ to_z w64 (of_z w64 y))) ≡ x +ℤ y
read_sum i x y lt h k =
    let time : IsTime y = (omega (arith, ints), omega (arith, ints)) in
    ap (λ z. to_z w64 (of_z w64 (x +ℤ z))) (read_time y time) ∙ to_z-of_z w64 (x +ℤ y) (sum-fits i x y lt h k)
