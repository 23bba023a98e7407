-- Rounds of departures that rise from a start: each round makes the departures that those of the round before ask for.
use Rattle.std.proofs.Common.{◌≡◌, ℕ, zero, suc, ◌+◌, ◌<◌, ◌≤◌, ℤ, pos, negsuc, ◌-ℤ◌, ◌≤ℤ◌, ◌<ℤ◌, List, length, map, arith, sym, ◌∙◌, subst, ◌⊎◌, inl, inr, ⊎_elim}
use Rattle.std.specs.List.{range_with_len}
use Rattle.std.proofs.lemmas.Int.{ints, by_lt_z}
use Rattle.std.proofs.lemmas.Bool.{cases_lt}
use Rattle.std.proofs.lemmas.List.{get_or_past}
use Rattle.std.proofs.lemmas.List.FromFn.{length-map-range_with_len, get_or-map-range_with_len}
use Rattle.mintc_timing.specs.Departures.{departure}

-- What holds of each element holds of all numbers, since those past the last element depart at 0.
pub everywhere : (n : ℕ) (d e : List ℤ) → length d ≡ n → length e ≡ n → ((l : ℕ) → l < n → departure d l ≤ℤ departure e l) → (l : ℕ) → departure d l ≤ℤ departure e l
everywhere n d e p q h l =
    ⊎_elim
    (λ lt. h l lt)
    (λ past. rw (get_or_past d l (pos 0) (rw p past), get_or_past e l (pos 0) (rw q past)) (omega (arith, ints)))
    (cases_lt l n)

-- sums of equal and ordered numbers, as the steps below use them
from_equal : (a b x y : ℤ) → x ≡ a → y ≡ b → a ≤ℤ b → x ≤ℤ y
from_equal a b x y p q h = omega (arith, ints)

both_ways : (x y : ℤ) → x ≤ℤ y → y ≤ℤ x → y ≡ x
both_ways x y h k = omega (arith, ints)

chained : (x y z : ℤ) → x ≤ℤ y → y ≤ℤ z → x ≤ℤ z
chained x y z h k = omega (arith, ints)

itself : (x : ℤ) → x ≤ℤ x
itself x = omega (arith, ints)

-- a number that is not negative, and 0 for any other
abbrev count_of : ℤ → ℕ
count_of (pos n) = n
count_of (negsuc n) = 0

count-mono : (x y : ℤ) → x ≤ℤ y → count_of x ≤ count_of y
count-mono x y h = grind (arith, ints)

count-falls : (x y : ℤ) → pos 0 ≤ℤ x → x <ℤ y → count_of x < count_of y
count-falls x y p h = grind (arith, ints)

-- what is left to rise up to a bound, before and after a step
left-mono : (top x y : ℤ) → x ≤ℤ y → count_of (top -ℤ y) ≤ count_of (top -ℤ x)
left-mono top x y h = count-mono (top -ℤ y) (top -ℤ x) (omega (arith, ints))

left-falls : (top x y : ℤ) → y ≤ℤ top → x <ℤ y → count_of (top -ℤ y) < count_of (top -ℤ x)
left-falls top x y h k = count-falls (top -ℤ y) (top -ℤ x) (omega (arith, ints)) (omega (arith, ints))

module _ (n : ℕ) (start : ℕ → ℤ) (step : List ℤ → ℕ → ℤ) where
  -- the departures after so many rounds
  abbrev pub round : ℕ → List ℤ
  round zero = map start (range_with_len 0 n)
  round (suc k) = map (step (round k)) (range_with_len 0 n)

  pub round-count : (k : ℕ) → length (round k) ≡ n
  round-count zero = length-map-range_with_len start 0 n
  round-count (suc k) = length-map-range_with_len (step (round k)) 0 n

  pub round-first : (l : ℕ) → l < n → departure (round zero) l ≡ start l
  round-first l h = get_or-map-range_with_len start 0 n l l (pos 0) h (omega arith)

  pub round-next : (k l : ℕ) → l < n → departure (round (suc k)) l ≡ step (round k) l
  round-next k l h = get_or-map-range_with_len (step (round k)) 0 n l l (pos 0) h (omega arith)

-- A step that asks for at least the start, and for no less where it is given no less.
module _ (n : ℕ) (start : ℕ → ℤ) (step : List ℤ → ℕ → ℤ)
    (low : (d : List ℤ) (l : ℕ) → start l ≤ℤ step d l)
    (mono : (d e : List ℤ) → ((l : ℕ) → departure d l ≤ℤ departure e l) → (l : ℕ) → step d l ≤ℤ step e l)
  where
    abbrev after : ℕ → List ℤ
    after k = round n start step k

    -- No round makes a departure earlier.
    pub round-rises : (k l : ℕ) → departure (after k) l ≤ℤ departure (after (suc k)) l
    round-rises zero =
        everywhere n (after zero) (after (suc zero)) (round-count n start step zero) (round-count n start step (suc zero))
        (λ l h. from_equal (start l) (step (after zero) l) (departure (after zero) l) (departure (after (suc zero)) l) (round-first n start step l h) (round-next n start step zero l h) (low (after zero) l))
    round-rises (suc k) =
        everywhere n (after (suc k)) (after (suc (suc k))) (round-count n start step (suc k)) (round-count n start step (suc (suc k)))
        (λ l h.
        from_equal (step (after k) l) (step (after (suc k)) l) (departure (after (suc k)) l) (departure (after (suc (suc k))) l) (round-next n start step k l h) (round-next n start step (suc k) l h)
        (mono (after k) (after (suc k)) (round-rises k) l))

    pub round-rises_far : (i k l : ℕ) → i ≤ k → departure (after i) l ≤ℤ departure (after k) l
    round-rises_far i zero l h =
        let same : i ≡ zero = omega arith in
        subst (λ m. departure (after m) l ≤ℤ departure (after zero) l) (sym same) (itself (departure (after zero) l))
    round-rises_far i (suc k) l h =
        ⊎_elim
        (λ (above : k < i).
        let same : i ≡ suc k = omega arith in
        subst (λ m. departure (after m) l ≤ℤ departure (after (suc k)) l) (sym same) (itself (departure (after (suc k)) l)))
        (λ (below : i ≤ k). chained (departure (after i) l) (departure (after k) l) (departure (after (suc k)) l) (round-rises_far i k l below) (round-rises k l))
        (cases_lt k i)

    -- Departures that are what they ask for are no earlier than those of any round.
    pub round-below : (e : List ℤ) → length e ≡ n → ((l : ℕ) → l < n → departure e l ≡ step e l) → (k l : ℕ) → departure (after k) l ≤ℤ departure e l
    round-below e count exact zero =
        everywhere n (after zero) e (round-count n start step zero) count
        (λ l h. from_equal (start l) (step e l) (departure (after zero) l) (departure e l) (round-first n start step l h) (exact l h) (low e l))
    round-below e count exact (suc k) =
        everywhere n (after (suc k)) e (round-count n start step (suc k)) count
        (λ l h.
        from_equal (step (after k) l) (step e l) (departure (after (suc k)) l) (departure e l) (round-next n start step k l h) (exact l h)
        (mono (after k) e (round-below e count exact k) l))

    pub round-above_start : (k l : ℕ) → l < n → start l ≤ℤ departure (after k) l
    round-above_start zero l h = subst (λ x. start l ≤ℤ x) (sym (round-first n start step l h)) (itself (start l))
    round-above_start (suc k) l h = subst (λ x. start l ≤ℤ x) (sym (round-next n start step k l h)) (low (after k) l)

    -- The next round changes nothing, or an element departs later.
    abbrev pub IsStill : ℕ → Type 0
    IsStill k = (l : ℕ) → l < n → departure (after (suc k)) l ≡ departure (after k) l

    abbrev pub Grows : ℕ → Type 0
    Grows k = (l : ℕ) × (l < n) × (departure (after k) l <ℤ departure (after (suc k)) l)

    -- The same of the first c elements.
    abbrev IsStillTo : ℕ → ℕ → Type 0
    IsStillTo k c = (l : ℕ) → l < c → departure (after (suc k)) l ≡ departure (after k) l

    still-more : (k c : ℕ) → IsStillTo k c → departure (after (suc k)) c ≤ℤ departure (after k) c → IsStillTo k (suc c)
    still-more k c same less l lt =
        ⊎_elim
        (λ (below : l < c). same l below)
        (λ (past : c ≤ l).
        let is : c ≡ l = omega arith in
        subst (λ m. departure (after (suc k)) m ≡ departure (after k) m) is (both_ways (departure (after k) c) (departure (after (suc k)) c) (round-rises k c) less))
        (cases_lt l c)

    one_more : (k c : ℕ) → suc c ≤ n → IsStillTo k c ⊎ Grows k → IsStillTo k (suc c) ⊎ Grows k
    one_more k c h (inr grows) = inr grows
    one_more k c h (inl same) =
        by_lt_z (departure (after k) c) (departure (after (suc k)) c)
        (λ more. inr (c, omega arith, more))
        (λ less. inl (still-more k c same less))

    up_to : (k c : ℕ) → c ≤ n → IsStillTo k c ⊎ Grows k
    up_to k zero h = inl (λ l lt. absurd (omega arith))
    up_to k (suc c) h = one_more k c h (up_to k c (omega arith))

    pub still-or_grows : (k : ℕ) → IsStill k ⊎ Grows k
    still-or_grows k = up_to k n (omega arith)

    -- Where the next round changes nothing, the departures are what they ask for.
    pub still-exact : (k : ℕ) → IsStill k → (l : ℕ) → l < n → departure (after k) l ≡ step (after k) l
    still-exact k still l h = sym (still l h) ∙ round-next n start step k l h

    -- Where no round passes a bound, some round changes nothing: what is left to rise falls with each other one.
    module _ (top : ℕ → ℤ) (bound : (k l : ℕ) → l < n → departure (after k) l ≤ℤ top l) where
      abbrev left : ℕ → ℕ → ℕ
      left k zero = 0
      left k (suc c) = left k c + count_of (top c -ℤ departure (after k) c)

      left-less : (k c : ℕ) → left (suc k) c ≤ left k c
      left-less k zero = omega arith
      left-less k (suc c) =
          let rest = left-less k c in
          let here = left-mono (top c) (departure (after k) c) (departure (after (suc k)) c) (round-rises k c) in
          omega arith

      left-lesser : (k c l : ℕ) → c ≤ n → l < c → departure (after k) l <ℤ departure (after (suc k)) l → left (suc k) c < left k c
      left-lesser k zero l h lt up = absurd (omega arith)
      left-lesser k (suc c) l h lt up =
          ⊎_elim
          (λ (below : l < c).
          let rest = left-lesser k c l (omega arith) below up in
          let here = left-mono (top c) (departure (after k) c) (departure (after (suc k)) c) (round-rises k c) in
          omega arith)
          (λ (past : c ≤ l).
          let is : l ≡ c = omega arith in
          let rest = left-less k c in
          let rose = subst (λ m. departure (after k) m <ℤ departure (after (suc k)) m) is up in
          let here = left-falls (top c) (departure (after k) c) (departure (after (suc k)) c) (bound (suc k) c (omega arith)) rose in
          omega arith)
          (cases_lt l c)

      search_from : (fuel k : ℕ) → left k n < fuel → (j : ℕ) × IsStill j
      search_from zero k h = absurd (omega arith)
      search_from (suc fuel) k h =
          ⊎_elim
          (λ (still : IsStill k). (k, still))
          (λ (grows : Grows k). let less = left-lesser k n grows.0 (omega arith) grows.1 grows.2 in search_from fuel (suc k) (omega arith))
          (still-or_grows k)

      pub settles : (j : ℕ) × IsStill j
      settles = search_from (suc (left zero n)) zero (omega arith)
