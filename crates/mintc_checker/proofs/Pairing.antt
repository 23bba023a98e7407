-- What labels say of a design with all its pairs.
use Rattle.std.proofs.Common.{◌≡◌, ℕ, ◌<◌, ◌+◌, ◌*◌, ℤ, pos, ◌+ℤ◌, ◌≤ℤ◌, ◌==◌, false, List, length, arith, refl, ap, ◌∙◌, sym, Option, Some, None, subst, eq-eqb}
use Rattle.std.specs.Prelude.{IsSomeAnd}
use Rattle.std.specs.List.{Contains}
use Rattle.std.proofs.lemmas.Int.{ints}
use Rattle.mintc_timing.specs.declared.parts.Pair.{Pair}
use Rattle.mintc_timing.specs.declared.clocking.Schedule.{Schedule}
use Rattle.mintc_timing.specs.Departures.{late_arrival, late_arrivals}
use Rattle.mintc_timing.specs.Design.{Design, Timing, element_at}
use Rattle.mintc_timing.specs.Extremes.{greatest_of, IsGreatest}
use Rattle.mintc_timing.specs.Paths.{IsPath, Leads, ArePairs, HasExtremes, input_of, output_of, greatest_delay}
use Rattle.mintc_timing.proofs.SharedExtremesLaws.{greatest_is}
use Rattle.mintc_timing.proofs.SharedProducts.{times-mono_positive}
use Rattle.mintc_checker.proofs.Deciding.{same_test}
use Rattle.mintc_checker.specs.Decided.{OfTiming}
use Rattle.mintc_checker.specs.Trails.{LeadsTo, arrival_along, IsLastArrival}

-- the timing of a design, an order of its arcs and pairs
abbrev pub timing_of : Design → List ℕ → List Pair → Timing
timing_of design along pairs' = record { flat = design; order = along; pairs = pairs' }

-- A claim of each order of the arcs, with all pairs, is one of each timing of the design.
pub of_timing : (design : Design) (P : Timing → Type 0) → ((along : List ℕ) (pairs : List Pair) → ArePairs design pairs → P (timing_of design along pairs)) → OfTiming design P
of_timing design P h t e are_pairs =
    let Q : Design → Type 0 = λ f. ArePairs f t.pairs → P (timing_of f t.order t.pairs) in
    subst Q (sym e) (h t.order t.pairs) are_pairs

not_odd : (j l : ℕ) → 2 * j + 1 ≡ 2 * l → ⊥
not_odd j l e = omega arith

module _ (design : Design) (along : List ℕ) (pairs : List Pair) (are_pairs : ArePairs design pairs) where
  abbrev t : Timing
  t = timing_of design along pairs

  -- a trail to an input is a listed path
  pub listed : (l j : ℕ) (path : List ℕ) → LeadsTo design (input_of l) j path → IsPath design.arcs j path (input_of l)
  listed l j path h = (λ e. not_odd j l (subst (λ xs. Leads design.arcs (output_of j) xs (input_of l)) e h.leads), h.leads)

  -- the pair of a trail
  pub pair_of_trail : (l j : ℕ) (path : List ℕ) → l < length design.elements → LeadsTo design (input_of l) j path →
      (p : Pair) × Contains pairs p × HasExtremes design p × (p.from ≡ j) × (p.to ≡ l)
  pair_of_trail l j path inside h =
      let found = are_pairs.whole j l path h.element inside (listed l j path h) in
      let at = found.1 in
      (found.0, at, rw at.2 at (are_pairs.each at.0 found.0 at.1), found.2, found.3)

  -- the trail of a pair that has its greatest delay
  pub trail_of_pair : (p : Pair) → HasExtremes design p → (path : List ℕ) × LeadsTo design (input_of p.to) p.from path × (greatest_delay design.arcs path ≡ p.max)
  trail_of_pair p h = let a = h.greatest.attained in (a.0, record { element = h.from; leads = a.1.1 }, a.2)

  module _ (s : Schedule) (d : List ℤ) (positive : pos 1 ≤ℤ s.den) (l : ℕ) (inside : l < length design.elements) where
    abbrev arrives : ℕ → List ℕ → ℤ
    arrives j path = arrival_along design s d (element_at design l).phase j path

    -- A pair's arrival is that of a trail with its greatest delay, and at least that of each trail.
    same_arrival : (p : Pair) (path : List ℕ) → p.to ≡ l → greatest_delay design.arcs path ≡ p.max → arrives p.from path ≡ late_arrival t.flat s d p
    same_arrival p path to is = rw (is, to) refl

    no_later : (p : Pair) (path : List ℕ) → p.to ≡ l → greatest_delay design.arcs path ≤ℤ p.max → arrives p.from path ≤ℤ late_arrival t.flat s d p
    no_later p path to low =
        let sum : ((element_at design p.from).dq_max +ℤ greatest_delay design.arcs path) ≤ℤ ((element_at design p.from).dq_max +ℤ p.max) = omega (arith, ints) in
        let product = times-mono_positive ((element_at design p.from).dq_max +ℤ greatest_delay design.arcs path) ((element_at design p.from).dq_max +ℤ p.max) s.den sum positive in
        rw to (omega (arith, ints))

    -- each pair to the element arrives no later than the last trail
    pair_bound : (last : Option ℤ) → IsLastArrival design s d l last → (p : Pair) → HasExtremes design p → p.to ≡ l → IsSomeAnd last (λ z. late_arrival t.flat s d p ≤ℤ z)
    pair_bound last h p extremes to =
        let trail = trail_of_pair p extremes in
        let leads : LeadsTo design (input_of l) p.from trail.0 = subst (λ k. LeadsTo design (input_of k) p.from trail.0) to trail.1 in
        subst (λ v. IsSomeAnd last (λ z. v ≤ℤ z)) (same_arrival p trail.0 to trail.2) (h.bound p.from trail.0 leads)

    same : (top last : Option ℤ) → IsGreatest (late_arrival t.flat s d) (λ (p : Pair). p.to == l) pairs top → IsLastArrival design s d l last → top ≡ last
    same None None h g = refl
    same None (Some z) h g =
        let a = g.attained in
        let found = pair_of_trail l a.0 a.1 inside a.2 in
        let at = found.1 in
        let none : (found.0.to == l) ≡ false = rw at.2 at (h at.0 found.0 at.1) in
        let same = eq-eqb found.0.to l found.4 in absurd (cc)
    same (Some y) None h g =
        let some = h.attained in
        let p : Pair = some.1 in
        let extremes : HasExtremes design p = rw some.3 at (are_pairs.each some.0 p some.2) in
        absurd (pair_bound None g p extremes ((same_test p.to l).0 some.4.0))
    same (Some y) (Some z) h g =
        let some = h.attained in
        let p : Pair = some.1 in
        let extremes : HasExtremes design p = rw some.3 at (are_pairs.each some.0 p some.2) in
        let low : late_arrival t.flat s d p ≤ℤ z = pair_bound (Some z) g p extremes ((same_test p.to l).0 some.4.0) in
        let is = some.4.1 in
        let a = g.attained in
        let found = pair_of_trail l a.0 a.1 inside a.2 in
        let at = found.1 in
        let path : IsPath design.arcs found.0.from a.1 (input_of found.0.to) = rw (found.3, found.4) (listed l a.0 a.1 a.2) in
        let below = no_later found.0 a.1 found.4 (found.2.greatest.bound a.1 path) in
        let top : late_arrival t.flat s d found.0 ≤ℤ y = (rw at.2 at (h.bound at.0 found.0 at.1)) (eq-eqb found.0.to l found.4) in
        let from : arrives found.0.from a.1 ≡ z = ap (λ k. arrives k a.1) found.3 ∙ a.3 in
        let both : y ≡ z = omega (arith, ints) in
        ap Some both

    pub arrivals_are : (last : Option ℤ) → IsLastArrival design s d l last → greatest_of (late_arrivals t s d l) ≡ last
    arrivals_are last h = same (greatest_of (late_arrivals t s d l)) last (greatest_is (late_arrival t.flat s d) (λ (p : Pair). p.to == l) pairs) h
