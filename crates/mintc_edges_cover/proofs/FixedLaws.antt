-- Lists of numbers that a rule leaves as they are: below those that it lowers, and above those that it raises.
use Rattle.std.proofs.Common.{◌≡◌, ℕ, zero, suc, ◌<◌, ℤ, pos, ◌≤ℤ◌, ◌+ℤ◌, List, map, length, get_or, All, ⊎_elim, arith, sym, ◌∙◌, subst}
use Rattle.std.proofs.lemmas.Int.{ints}
use Rattle.std.proofs.lemmas.Bool.{cases_lt}
use Rattle.std.proofs.lemmas.List.{get_or_past}
use Rattle.std.proofs.lemmas.List.FromFn.{length-map-range_with_len, get_or-map-range_with_len, length-range_with_len, get_or-range_with_len}
use Rattle.std.specs.List.{range_with_len}
use Rattle.mintc_graph.specs.Rings.{total}
use Rattle.mintc_timing.specs.Departures.{departure}
use Rattle.mintc_timing.proofs.SharedMembers.{All-range}
use Rattle.mintc_edges_cover.proofs.Sums.{gap, total-mono, Drops, drops}

-- the first n of some numbers are nowhere greater
abbrev pub AtMost : ℕ → List ℤ → List ℤ → Type 0
AtMost n d e = (l : ℕ) → l < n → departure d l ≤ℤ departure e l

-- then none is, where the lists have no more
pub everywhere : (n : ℕ) (d e : List ℤ) → length d ≡ n → length e ≡ n → AtMost n d e → (l : ℕ) → departure d l ≤ℤ departure e l
everywhere n d e p q h l =
    ⊎_elim
    (λ lt. h l lt)
    (λ past. rw (get_or_past d l (pos 0) (rw p past), get_or_past e l (pos 0) (rw q past)) (omega (arith, ints)))
    (cases_lt l n)

-- A rule, which makes of n numbers a number at each place, never less of greater ones.
module _ (n : ℕ) (rule : List ℤ → ℕ → ℤ)
    (mono : (d e : List ℤ) → ((l : ℕ) → departure d l ≤ℤ departure e l) → (l : ℕ) → rule d l ≤ℤ rule e l) where
  -- what it makes of numbers
  abbrev pub made : List ℤ → List ℤ
  made d = map (rule d) (range_with_len 0 n)

  pub made-count : (d : List ℤ) → length (made d) ≡ n
  made-count d = length-map-range_with_len (rule d) 0 n

  pub made-is : (d : List ℤ) (l : ℕ) → l < n → departure (made d) l ≡ rule d l
  made-is d l h = get_or-map-range_with_len (rule d) 0 n l l (pos 0) h (omega arith)

  -- It leaves them as they are.
  pub record IsFixed (d : List ℤ) : Type 0 where
    pub count : length d ≡ n
    pub each : (l : ℕ) → l < n → departure d l ≡ rule d l

  -- It makes them nowhere greater, or nowhere less.
  pub record IsLowered (d : List ℤ) : Type 0 where
    pub count : length d ≡ n
    pub each : (l : ℕ) → l < n → rule d l ≤ℤ departure d l

  pub record IsRaised (d : List ℤ) : Type 0 where
    pub count : length d ≡ n
    pub each : (l : ℕ) → l < n → departure d l ≤ℤ rule d l

  made-below : (d : List ℤ) → IsLowered d → AtMost n (made d) d
  made-below d h l below = rw (made-is d l below) (h.each l below)

  made-lowered : (d : List ℤ) → IsLowered d → IsLowered (made d)
  made-lowered d h = record {
    count = made-count d;
    each = λ l below. rw (made-is d l below) (mono (made d) d (everywhere n (made d) d (made-count d) h.count (made-below d h)) l);
  }

  made-above : (d : List ℤ) → IsRaised d → AtMost n d (made d)
  made-above d h l below = rw (made-is d l below) (h.each l below)

  made-raised : (d : List ℤ) → IsRaised d → IsRaised (made d)
  made-raised d h = record {
    count = made-count d;
    each = λ l below. rw (made-is d l below) (mono d (made d) (everywhere n d (made d) h.count (made-count d) (made-above d h)) l);
  }

  -- what holds at each place
  at_each : (P : ℕ → Type 0) → All P (range_with_len 0 n) → (l : ℕ) → l < n → P l
  at_each P h l below =
      let is : get_or (range_with_len 0 n) l 0 ≡ l = get_or-range_with_len 0 n l 0 below ∙ omega arith in
      subst P is (h l 0 (rw (length-range_with_len 0 n) below))

  for_each : (P : ℕ → Type 0) → ((l : ℕ) → l < n → P l) → All P (range_with_len 0 n)
  for_each P h = All-range P 0 n (λ l low high. h l (omega arith))

  fixed : (d : List ℤ) → length d ≡ n → ((l : ℕ) → l < n → departure (made d) l ≡ departure d l) → IsFixed d
  fixed d count same = record { count = count; each = λ l below. sym (same l below) ∙ made-is d l below }

  -- ---- lowering

  -- fixed numbers that are nowhere greater than these
  abbrev pub FixedBelow : List ℤ → Type 0
  FixedBelow d = (e : List ℤ) × IsFixed e × AtMost n e d

  module _ (low : ℕ → ℤ) (least : (d : List ℤ) (l : ℕ) → low l ≤ℤ rule d l) where
    made-least : (d : List ℤ) → total low (range_with_len 0 n) ≤ℤ total (departure (made d)) (range_with_len 0 n)
    made-least d = total-mono low (departure (made d)) (range_with_len 0 n) (for_each (λ l. low l ≤ℤ departure (made d) l) (λ l below. rw (made-is d l below) (least d l)))

    lower : (d : List ℤ) → IsLowered d → Drops (departure (made d)) (departure d) (range_with_len 0 n)
    lower d h = drops (departure (made d)) (departure d) (range_with_len 0 n) (for_each (λ l. departure (made d) l ≤ℤ departure d l) (made-below d h))

    still : (d : List ℤ) → IsLowered d → All (λ l. departure (made d) l ≡ departure d l) (range_with_len 0 n) → FixedBelow d
    still d h same = (d, fixed d h.count (at_each (λ l. departure (made d) l ≡ departure d l) same), λ l below. omega (arith, ints))

    -- Each time that they are lowered their sum is less, and it isn't below that of the least numbers.
    lowered : (fuel : ℕ) (d : List ℤ) → IsLowered d → total (departure d) (range_with_len 0 n) ≤ℤ (total low (range_with_len 0 n) +ℤ pos fuel) → FixedBelow d
    lowered zero d h small =
        let bottom = made-least d in
        ⊎_elim (still d h) (λ less. absurd (omega (arith, ints))) (lower d h)
    lowered (suc fuel) d h small =
        ⊎_elim
        (still d h)
        (λ less.
        let next = lowered fuel (made d) (made-lowered d h) (omega (arith, ints)) in
        (next.0, next.1, λ l below. omega (arith, ints, next.2 l below, made-below d h l below)))
        (lower d h)

    pub fixed_below : (d : List ℤ) → IsLowered d → FixedBelow d
    fixed_below d h =
        let far = gap (total low (range_with_len 0 n)) (total (departure d) (range_with_len 0 n)) in
        lowered far.0 d h far.1

  -- ---- raising

  -- fixed numbers that are nowhere less than these, and at most all that are fixed and nowhere less
  abbrev pub LeastAbove : List ℤ → Type 0
  LeastAbove d = (e : List ℤ) × IsFixed e × ((x : List ℤ) → IsFixed x → AtMost n d x → AtMost n e x)

  module _ (top : List ℤ) (top-lowered : IsLowered top) where
    raise : (d : List ℤ) → IsRaised d → Drops (departure d) (departure (made d)) (range_with_len 0 n)
    raise d h = drops (departure d) (departure (made d)) (range_with_len 0 n) (for_each (λ l. departure d l ≤ℤ departure (made d) l) (made-above d h))

    made-under : (d x : List ℤ) → length d ≡ n → length x ≡ n → AtMost n d x → ((l : ℕ) → l < n → rule x l ≤ℤ departure x l) → AtMost n (made d) x
    made-under d x p q under at l below =
        let one = mono d x (everywhere n d x p q under) l in
        let two = at l below in
        let is = made-is d l below in
        omega (arith, ints)

    quiet : (d : List ℤ) → IsRaised d → All (λ l. departure d l ≡ departure (made d) l) (range_with_len 0 n) → LeastAbove d
    quiet d h same = (d, fixed d h.count (λ l below. sym (at_each (λ l. departure d l ≡ departure (made d) l) same l below)), λ x fix above. above)

    raised : (fuel : ℕ) (d : List ℤ) → IsRaised d → AtMost n d top → total (departure top) (range_with_len 0 n) ≤ℤ (total (departure d) (range_with_len 0 n) +ℤ pos fuel) → LeastAbove d
    raised zero d h under near =
        let next = made-under d top h.count top-lowered.count under top-lowered.each in
        let most = total-mono (departure (made d)) (departure top) (range_with_len 0 n) (for_each (λ l. departure (made d) l ≤ℤ departure top l) next) in
        ⊎_elim (quiet d h) (λ more. absurd (omega (arith, ints))) (raise d h)
    raised (suc fuel) d h under near =
        ⊎_elim
        (quiet d h)
        (λ more.
        let next = made-under d top h.count top-lowered.count under top-lowered.each in
        let found = raised fuel (made d) (made-raised d h) next (omega (arith, ints)) in
        (found.0, found.1, λ x fix above. found.2 x fix (made-under d x h.count fix.count above (λ l below. let is = fix.each l below in omega (arith, ints)))))
        (raise d h)

    pub least_above : (d : List ℤ) → IsRaised d → AtMost n d top → LeastAbove d
    least_above d h under =
        let far = gap (total (departure d) (range_with_len 0 n)) (total (departure top) (range_with_len 0 n)) in
        raised far.0 d h under far.1
