-- the sizes of late departures
use Rattle.std.proofs.Common.{◌≡◌, ℕ, ◌+◌, ◌<◌, ◌≤◌, ℤ, pos, ◌+ℤ◌, ◌-ℤ◌, ◌≤ℤ◌, ◌<ℤ◌, ◌==◌, Bool, true, false, cond, List, length, get_or, map, arith, sym, ap, ◌∙◌, ◌⊎◌, inl, inr, ⊎_elim, subst}
use Rattle.std.proofs.lemmas.Int.{ints}
use Rattle.std.proofs.lemmas.Bool.{cases_Bool, eqb-true}
use Rattle.std.proofs.lemmas.List.{length-map, get_or_default}
use Rattle.std.proofs.Math.ListN.{get_or-map}
use lib.Signed.{lt_z}
use Rattle.mintc_graph_walks.specs.Bounds.{IsWithin}
use Rattle.mintc_timing.specs.declared.parts.Pair.{Pair}
use Rattle.mintc_timing.specs.declared.clocking.Schedule.{Schedule}
use Rattle.mintc_timing.specs.Design.{Timing, element_at, element_count, pair_at, no_pair}
use Rattle.mintc_timing.specs.Departures.{departure, late_arrival, late_arrivals, late_opening, late_departure, AreExact, AreLate}
use Rattle.mintc_timing.specs.Extremes.{greater_of, greatest_of}
use Rattle.mintc_timing.proofs.SharedDepartureLaws.{late_departure-latch, late_departure-flop}
use Rattle.mintc_timing.proofs.SharedExtremesLaws.{greatest_is, greater-attained}
use Rattle.mintc_timing.proofs.SharedLoops.{arrival-at_most}
use Rattle.mintc_departure.specs.Clocked.{IsClocked}
use Rattle.mintc_departure.specs.Networks.{late_travel}
use Rattle.mintc_departure.proofs.Ladders.{IsGap, all_below}
use Rattle.mintc_departure.proofs.NetworkLaws.{greater-is, arrival-is, exact-starts}
use Rattle.mintc_departure.proofs.SharedSizes.{start-within, opening-within, shifted_delay-within, pair_ends}

-- a number above a bound less 1, and any other as it is
abbrev lowered : ℤ → ℤ → ℤ
lowered high y = cond (lt_z high y) (y -ℤ pos 1) y

lowered-high : (high y : ℤ) → high <ℤ y → lowered high y ≡ y -ℤ pos 1
lowered-high high y h = grind (arith, ints)

lowered-low : (high y : ℤ) → y ≤ℤ high → lowered high y ≡ y
lowered-low high y h = grind (arith, ints)

lowered-at : (high : ℕ) (d : List ℤ) (l : ℕ) → departure (map (lowered (pos high)) d) l ≡ lowered (pos high) (departure d l)
lowered-at high d l =
    let none : lowered (pos high) (pos 0) ≡ pos 0 = lowered-low (pos high) (pos 0) (omega (arith, ints)) in
    ap (λ z. get_or (map (lowered (pos high)) d) l z) (sym none) ∙ get_or-map (lowered (pos high)) d l (pos 0)

-- A lowered number of a list with a gap: it was low and stays, or was high and has 1 less.
abbrev IsLowered : ℤ → ℤ → ℤ → ℤ → Type 0
IsLowered low high y z = ((y ≤ℤ low) × (z ≡ y)) ⊎ ((high <ℤ y) × (z ≡ y -ℤ pos 1))

-- What an arrival keeps when all high numbers are lowered, across a gap that is as wide as any delay.
arrival-kept : (low width : ℕ) (a a' b b' w : ℤ) → IsWithin width w → IsLowered (pos low) (pos (low + width)) a a' → IsLowered (pos low) (pos (low + width)) b b' →
    (a +ℤ w) ≤ℤ b → (a' +ℤ w) ≤ℤ b'
arrival-kept low width a a' b b' w r p q h = grind (arith, ints)

arrival-brought : (low width : ℕ) (a a' b b' w : ℤ) → IsWithin width w → IsLowered (pos low) (pos (low + width)) a a' → IsLowered (pos low) (pos (low + width)) b b' →
    b ≡ a +ℤ w → b' ≡ a' +ℤ w
arrival-brought low width a a' b b' w r (inl p) (inl q) h = omega (arith, ints)
arrival-brought low width a a' b b' w r (inl p) (inr q) h = absurd (omega (arith, ints))
arrival-brought low width a a' b b' w r (inr p) (inl q) h = absurd (omega (arith, ints))
arrival-brought low width a a' b b' w r (inr p) (inr q) h = omega (arith, ints)

start-kept : (low width : ℕ) (start b b' : ℤ) → start ≤ℤ pos low → IsLowered (pos low) (pos (low + width)) b b' → start ≤ℤ b → start ≤ℤ b'
start-kept low width start b b' s p h = grind (arith, ints)

start-same : (low width : ℕ) (start b b' : ℤ) → start ≤ℤ pos low → IsLowered (pos low) (pos (low + width)) b b' → b ≡ start → b' ≡ start
start-same low width start b b' s p h = grind (arith, ints)

high-fell : (low width : ℕ) (b b' : ℤ) → IsLowered (pos low) (pos (low + width)) b b' → b ≤ℤ b' → b ≤ℤ pos low
high-fell low width b b' p h = grind (arith, ints)

module _ (t : Timing) (s : Schedule) (fits : IsClocked t s) where
  module _ (d : List ℤ) (exact : AreExact t s d) where
    -- A latch departs when it opens, or when the data of some pair is there.
    attained : (l : ℕ) → l < element_count t.flat → (element_at t.flat l).flop ≡ false →
        (departure d l ≡ late_opening t.flat s l) ⊎ ((n : ℕ) × (n < length t.pairs) × ((pair_at t n).to == l ≡ true) × (departure d l ≡ late_arrival t.flat s d (pair_at t n)))
    attained l h e =
        let is : departure d l ≡ greater_of (late_opening t.flat s l) (greatest_of (late_arrivals t s d l)) = exact.each l h ∙ late_departure-latch t s d l e in
        let test : Pair → Bool = λ p. p.to == l in
        let o = greatest_of (late_arrivals t s d l) in
        ⊎_elim
        (λ a. inl (is ∙ a))
        (λ w. let same : pair_at t w.0 ≡ w.1 = get_or_default t.pairs w.0 no_pair w.1 w.2 ∙ w.3 in inr (w.0, w.2, ap test same ∙ w.4.0, is ∙ sym w.4.1 ∙ ap (late_arrival t.flat s d) (sym same)))
        (greater-attained (late_arrival t.flat s d) test (late_opening t.flat s l) t.pairs o (greatest_is (late_arrival t.flat s d) test t.pairs))

    module _ (low : ℕ) (high_enough : 100000000000000 ≤ low) (gap : IsGap (departure d) (pos low) (pos (low + 400000000000000)) (element_count t.flat)) where
      abbrev down : List ℤ
      down = map (lowered (pos (low + 400000000000000))) d

      down-at : (l : ℕ) → departure down l ≡ lowered (pos (low + 400000000000000)) (departure d l)
      down-at l = lowered-at (low + 400000000000000) d l

      down-is : (l : ℕ) → l < element_count t.flat → IsLowered (pos low) (pos (low + 400000000000000)) (departure d l) (departure down l)
      down-is l h =
          ⊎_elim
          (λ a. let under : departure d l ≤ℤ pos (low + 400000000000000) = omega (arith, ints) in inl (a, down-at l ∙ lowered-low _ _ under))
          (λ b. inr (b, down-at l ∙ lowered-high _ _ b))
          (gap l h)

      down-flop : (l : ℕ) → l < element_count t.flat → (element_at t.flat l).flop ≡ true → departure down l ≡ late_departure t s down l
      down-flop l h e =
          let zero_is : departure d l ≡ pos 0 = exact.each l h ∙ late_departure-flop t s d l e in
          start-same low 400000000000000 (pos 0) (departure d l) (departure down l) (omega (arith, ints)) (down-is l h) zero_is ∙ sym (late_departure-flop t s down l e)

      down-latch : (l : ℕ) → l < element_count t.flat → (element_at t.flat l).flop ≡ false → departure down l ≡ late_departure t s down l
      down-latch l h e =
          let test : Pair → Bool = λ p. p.to == l in
          let w = opening-within t s fits l h in
          let opens : late_opening t.flat s l ≤ℤ pos low = let b = w.1 in omega (arith, ints) in
          greater-is (late_arrival t.flat s down) test t.pairs no_pair (late_opening t.flat s l) (departure down l)
          (start-kept low 400000000000000 (late_opening t.flat s l) (departure d l) (departure down l) opens (down-is l h) (rw e at (exact-starts t s d exact fits.timing.extremes.each l h)))
          (λ n k to. kept n k (eqb-true _ _ to))
          (⊎_elim
          (λ a. inl (start-same low 400000000000000 (late_opening t.flat s l) (departure d l) (departure down l) opens (down-is l h) a))
          (λ m. inr (m.0, m.1, m.2, brought m.0 m.1 (eqb-true _ _ m.2) m.3))
          (attained l h e))
          ∙ sym (late_departure-latch t s down l e)
        where
          kept : (n : ℕ) → n < length t.pairs → (pair_at t n).to ≡ l → late_arrival t.flat s down (pair_at t n) ≤ℤ departure down l
          kept n k to =
              let ends = pair_ends t s fits n k in
              let P : ℕ → Type 0 = λ m. late_arrival t.flat s d (pair_at t n) ≤ℤ departure d m in
              let a = subst P to (arrival-at_most t s d exact fits.timing.extremes.each n no_pair k (rw to e)) in
              rw (arrival-is t s down (pair_at t n))
              (arrival-kept low 400000000000000 (departure d (pair_at t n).from) (departure down (pair_at t n).from) (departure d l) (departure down l) (late_travel t.flat s (pair_at t n))
              (shifted_delay-within t s fits n k) (down-is (pair_at t n).from ends.from) (down-is l h) (rw (arrival-is t s d (pair_at t n)) at a))

          brought : (n : ℕ) → n < length t.pairs → (pair_at t n).to ≡ l → departure d l ≡ late_arrival t.flat s d (pair_at t n) → departure down l ≡ late_arrival t.flat s down (pair_at t n)
          brought n k to is =
              let ends = pair_ends t s fits n k in
              arrival-brought low 400000000000000 (departure d (pair_at t n).from) (departure down (pair_at t n).from) (departure d l) (departure down l) (late_travel t.flat s (pair_at t n))
              (shifted_delay-within t s fits n k) (down-is (pair_at t n).from ends.from) (down-is l h) (is ∙ arrival-is t s d (pair_at t n))
              ∙ sym (arrival-is t s down (pair_at t n))

      down-exact : AreExact t s down
      down-exact = record {
        count = length-map d (lowered (pos (low + 400000000000000))) ∙ exact.count;
        each = λ l h. ⊎_elim (down-flop l h) (down-latch l h) (cases_Bool (element_at t.flat l).flop);
      }

      stays : ((e : List ℤ) → AreExact t s e → (l : ℕ) → l < element_count t.flat → departure d l ≤ℤ departure e l) → (l : ℕ) → l < element_count t.flat → departure d l ≤ℤ pos low
      stays least l h = high-fell low 400000000000000 (departure d l) (departure down l) (down-is l h) (least down down-exact l h)

  -- Late departures are sums over at most one pair for each element.
  pub late-within : (d : List ℤ) → AreLate t s d → (l : ℕ) → l < element_count t.flat → IsWithin 8000100000000000000 (departure d l)
  late-within d late l h =
      let top = all_below (departure d) 100000000000000 400000000000000 (element_count t.flat) (λ low e gap. stays d late.exact low e gap late.least) l h in
      let low = exact-starts t s d late.exact fits.timing.extremes.each l h in
      let start = start-within t s fits l h in
      (omega (arith, ints), omega (arith, ints))
