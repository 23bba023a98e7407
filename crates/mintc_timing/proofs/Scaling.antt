-- A right schedule is right over each denominator.
use Rattle.std.proofs.Common.{◌≡◌, ℕ, ◌+◌, ◌-◌, ℤ, pos, ◌≤ℤ◌, ◌+ℤ◌, ◌-ℤ◌, ◌*ℤ◌, Bool, true, false, cond, List, [], ◌∷◌, get_or, map, arith, refl, ap, ◌∙◌, sym, Option, Some, None, IfSome, option_map, MatchBool}
use Rattle.std.proofs.Math.IntN.{*ℤ_comm, zero-*ℤ}
use Rattle.std.proofs.lemmas.Int.{ints, clamps, by_lt_z}
use Rattle.std.proofs.lemmas.List.{length-map}
use Rattle.std.proofs.Math.ListN.{get_or-map}
use Rattle.std.specs.Int.{int_max}
use Rattle.mintc_timing.specs.declared.parts.Pair.{Pair}
use Rattle.mintc_timing.specs.declared.parts.Point.{Point}
use Rattle.mintc_timing.specs.declared.parts.Point.TheVariants as point
use Rattle.mintc_timing.specs.declared.parts.Bound.{Bound}
use Rattle.mintc_timing.specs.declared.clocking.Schedule.{Schedule}
use Rattle.mintc_timing.specs.Design.{Timing, element_at, phase_of}
use Rattle.mintc_timing.specs.Extremes.{greater_of, greatest_of}
use Rattle.mintc_timing.specs.Clocking.{start_of, width_of, end_of, shift_of, crosses_of, time_of, least_width, KeepsApart, KeepsPhase, KeepsClock, KeepsBound}
use Rattle.mintc_timing.specs.Departures.{departure, into, late_arrival, late_arrivals, late_opening, late_departure, AreExact}
use Rattle.mintc_timing.specs.Right.{KeepsSetup, IsRight}
use Rattle.mintc_timing.specs.Laws.{times, times_schedule, RightAtEachDenominator}
use Rattle.mintc_timing.proofs.SharedProducts.{add-times, swap-times, times-mono_positive}

-- a product of a product, and of a difference
times_assoc : (x y z : ℤ) → x *ℤ (y *ℤ z) ≡ (x *ℤ y) *ℤ z
times_assoc x y z = *ℤ_comm x (y *ℤ z) ∙ swap-times y z x ∙ ap (λ v. v *ℤ z) (*ℤ_comm y x)

minus-times : (x y z : ℤ) → (x -ℤ y) *ℤ z ≡ x *ℤ z -ℤ y *ℤ z
minus-times x y z =
    let both : ((x -ℤ y) +ℤ y) *ℤ z ≡ (x -ℤ y) *ℤ z +ℤ y *ℤ z = add-times (x -ℤ y) y z in
    let whole : (x -ℤ y) +ℤ y ≡ x = omega (arith, ints) in
    let same : x *ℤ z ≡ (x -ℤ y) *ℤ z +ℤ y *ℤ z = ap (λ v. v *ℤ z) (sym whole) ∙ both in
    omega (arith, ints)

-- what equations say of an order
le_by : (x y a b : ℤ) → x ≡ a → y ≡ b → a ≤ℤ b → x ≤ℤ y
le_by x y a b e f h = rw (e, f) h

module _ (m : ℤ) (some : pos 1 ≤ℤ m) where
  grown : (x y : ℤ) → x ≤ℤ y → (x *ℤ m) ≤ℤ (y *ℤ m)
  grown x y h = times-mono_positive x y m h some

  int_max-times : (x y : ℤ) → int_max (x *ℤ m) (y *ℤ m) ≡ int_max x y *ℤ m
  int_max-times x y = by_lt_z x y
      (λ h. let e : int_max x y ≡ y = omega (arith, ints, clamps) in let g = grown x y (omega (arith, ints)) in rw e (omega (arith, ints, clamps)))
      (λ h. let e : int_max x y ≡ x = omega (arith, ints, clamps) in let g = grown y x (omega (arith, ints)) in rw e (omega (arith, ints, clamps)))

  greater_of-times : (x : ℤ) (o : Option ℤ) → greater_of (x *ℤ m) (option_map (λ z. z *ℤ m) o) ≡ greater_of x o *ℤ m
  greater_of-times x None = refl
  greater_of-times x (Some y) = int_max-times x y

  greatest_of-times : (xs : List ℤ) → greatest_of (map (λ z. z *ℤ m) xs) ≡ option_map (λ z. z *ℤ m) (greatest_of xs)
  greatest_of-times [] = refl
  greatest_of-times (x ∷ xs) = ap (λ o. Some (greater_of (x *ℤ m) o)) (greatest_of-times xs) ∙ ap Some (greater_of-times x (greatest_of xs))

  get_or-times : (xs : List ℤ) (n : ℕ) → get_or (times m xs) n (pos 0) ≡ get_or xs n (pos 0) *ℤ m
  get_or-times xs n = ap (λ z. get_or (times m xs) n z) (sym (zero-*ℤ m)) ∙ get_or-map (λ z. z *ℤ m) xs n (pos 0)

  module _ (t : Timing) (s : Schedule) (d : List ℤ) where
    start-times : (p : ℕ) → start_of (times_schedule m s) p ≡ start_of s p *ℤ m
    start-times p = get_or-times s.starts (p - 1)

    width-times : (p : ℕ) → width_of (times_schedule m s) p ≡ width_of s p *ℤ m
    width-times p = get_or-times s.widths (p - 1)

    end-times : (p : ℕ) → end_of (times_schedule m s) p ≡ end_of s p *ℤ m
    end-times p =
        let a = start-times p in
        let b = width-times p in
        let c = add-times (start_of s p) (width_of s p) m in
        omega (arith, ints)

    cycles-times : (n : ℕ) → pos n *ℤ (s.cycle *ℤ m) ≡ (pos n *ℤ s.cycle) *ℤ m
    cycles-times n = times_assoc (pos n) s.cycle m

    shift-times : (i j : ℕ) → shift_of (times_schedule m s) i j ≡ shift_of s i j *ℤ m
    shift-times i j =
        let a = start-times i in
        let b = start-times j in
        let c = cycles-times (crosses_of i j) in
        let e = minus-times (start_of s i) (start_of s j) m in
        let f = minus-times (start_of s i -ℤ start_of s j) (pos (crosses_of i j) *ℤ s.cycle) m in
        omega (arith, ints)

    departure-times : (l : ℕ) → departure (times m d) l ≡ departure d l *ℤ m
    departure-times l = get_or-times d l

    arrival-times : (p : Pair) → late_arrival t.flat (times_schedule m s) (times m d) p ≡ late_arrival t.flat s d p *ℤ m
    arrival-times p =
        let a = departure-times p.from in
        let b = times_assoc ((element_at t.flat p.from).dq_max +ℤ p.max) s.den m in
        let c = shift-times (phase_of t.flat p.from) (phase_of t.flat p.to) in
        let e = add-times (departure d p.from) (((element_at t.flat p.from).dq_max +ℤ p.max) *ℤ s.den) m in
        let f = add-times (departure d p.from +ℤ ((element_at t.flat p.from).dq_max +ℤ p.max) *ℤ s.den) (shift_of s (phase_of t.flat p.from) (phase_of t.flat p.to)) m in
        omega (arith, ints)

    maps : (ps : List Pair) → map (late_arrival t.flat (times_schedule m s) (times m d)) ps ≡ map (λ z. z *ℤ m) (map (late_arrival t.flat s d) ps)
    maps [] = refl
    maps (p ∷ ps) = ap (λ z. z ∷ map (late_arrival t.flat (times_schedule m s) (times m d)) ps) (arrival-times p) ∙ ap (λ zs. (late_arrival t.flat s d p *ℤ m) ∷ zs) (maps ps)

    greatest-times : (l : ℕ) → greatest_of (late_arrivals t (times_schedule m s) (times m d) l) ≡ option_map (λ z. z *ℤ m) (greatest_of (late_arrivals t s d l))
    greatest-times l = ap greatest_of (maps (into t l)) ∙ greatest_of-times (late_arrivals t s d l)

    opening-times : (l : ℕ) → late_opening t.flat (times_schedule m s) l ≡ late_opening t.flat s l *ℤ m
    opening-times l = times_assoc ((element_at t.flat l).cq_max -ℤ (element_at t.flat l).dq_max) s.den m

    served-times : (l : ℕ) → greater_of (late_opening t.flat (times_schedule m s) l) (greatest_of (late_arrivals t (times_schedule m s) (times m d) l))
        ≡ greater_of (late_opening t.flat s l) (greatest_of (late_arrivals t s d l)) *ℤ m
    served-times l = ap (λ z. greater_of z (greatest_of (late_arrivals t (times_schedule m s) (times m d) l))) (opening-times l)
        ∙ ap (greater_of (late_opening t.flat s l *ℤ m)) (greatest-times l) ∙ greater_of-times (late_opening t.flat s l) (greatest_of (late_arrivals t s d l))

    cond-times : (b : Bool) (x y : ℤ) → y ≡ x *ℤ m → cond b (pos 0) y ≡ cond b (pos 0) x *ℤ m
    cond-times true x y e = sym (zero-*ℤ m)
    cond-times false x y e = e

    late-times : (l : ℕ) → late_departure t (times_schedule m s) (times m d) l ≡ late_departure t s d l *ℤ m
    late-times l = cond-times (element_at t.flat l).flop _ _ (served-times l)

    exact-times : AreExact t s d → AreExact t (times_schedule m s) (times m d)
    exact-times h = record {
      count = length-map d (λ z. z *ℤ m) ∙ h.count;
      each = λ l g. departure-times l ∙ ap (λ z. z *ℤ m) (h.each l g) ∙ sym (late-times l);
    }

    point-times : (x : Point) → time_of (times_schedule m s) x ≡ time_of s x *ℤ m
    point-times point.Origin = sym (zero-*ℤ m)
    point-times (point.Start p) = start-times p
    point-times (point.End p) = end-times p

    apart-times : (i j : ℕ) → KeepsApart t s i j → KeepsApart t (times_schedule m s) i j
    apart-times i j kept fed =
        let a = end-times j in
        let b = cycles-times (crosses_of j i) in
        let c = minus-times (end_of s j) (pos (crosses_of j i) *ℤ s.cycle) m in
        let e = start-times i in
        let g = grown _ _ (kept fed) in
        omega (arith, ints)

    phase-times : (p : ℕ) → KeepsPhase t s p → KeepsPhase t (times_schedule m s) p
    phase-times p k = record {
      start = (le_by _ _ _ _ (sym (zero-*ℤ m)) (start-times p) (grown _ _ k.start.0), le_by _ _ _ _ (start-times p) refl (grown _ _ k.start.1));
      span = (le_by _ _ _ _ (sym (zero-*ℤ m)) (width-times p) (grown _ _ k.span.0), le_by _ _ _ _ (width-times p) refl (grown _ _ k.span.1));
      order = λ h. le_by _ _ _ _ (start-times p) (start-times (p + 1)) (grown _ _ (k.order h));
      wide = le_by _ _ _ _ (times_assoc (least_width t.flat p) s.den m) (width-times p) (grown _ _ k.wide);
      apart = λ j g h. apart-times p j (k.apart j g h);
    }

    clock-times : KeepsClock t s → KeepsClock t (times_schedule m s)
    clock-times k = record {
      den = le_by _ _ _ _ refl refl (let g = grown (pos 1) s.den k.den in let e : pos 1 *ℤ m ≡ m = omega (arith, ints) in omega (arith, ints));
      starts = length-map s.starts (λ z. z *ℤ m) ∙ k.starts;
      widths = length-map s.widths (λ z. z *ℤ m) ∙ k.widths;
      each = λ p g h. phase-times p (k.each p g h);
    }

    bound-times : (b : Bound) → KeepsBound s b → KeepsBound (times_schedule m s) b
    bound-times b kept =
        let a = point-times b.from in
        let e = point-times b.to in
        let f = times_assoc b.gap s.den m in
        let c = cycles-times b.cycles in
        let g = add-times (time_of s b.from) (b.gap *ℤ s.den) m in
        let h = minus-times (time_of s b.from +ℤ b.gap *ℤ s.den) (pos b.cycles *ℤ s.cycle) m in
        let k = grown _ _ kept in
        omega (arith, ints)

    -- what a setup asks of a latch, and of a flop with data that comes
    latch-times : (l : ℕ) → (int_max (pos 0) (departure d l) +ℤ (element_at t.flat l).setup *ℤ s.den) ≤ℤ width_of s (phase_of t.flat l) →
        (int_max (pos 0) (departure (times m d) l) +ℤ (element_at t.flat l).setup *ℤ (s.den *ℤ m)) ≤ℤ width_of (times_schedule m s) (phase_of t.flat l)
    latch-times l h =
        let a : int_max (pos 0) (departure (times m d) l) ≡ int_max (pos 0) (departure d l) *ℤ m =
        ap (λ z. int_max (pos 0) z) (departure-times l) ∙ ap (λ z. int_max z (departure d l *ℤ m)) (sym (zero-*ℤ m)) ∙ int_max-times (pos 0) (departure d l) in
        let b = times_assoc (element_at t.flat l).setup s.den m in
        let c = width-times (phase_of t.flat l) in
        let e = add-times (int_max (pos 0) (departure d l)) ((element_at t.flat l).setup *ℤ s.den) m in
        let g = grown _ _ h in
        le_by _ _ _ _ (ap (λ z. z +ℤ (element_at t.flat l).setup *ℤ (s.den *ℤ m)) a ∙ ap (λ z. int_max (pos 0) (departure d l) *ℤ m +ℤ z) b ∙ sym e) c g

    flop-times : (setup : ℤ) (o : Option ℤ) → IfSome o (λ a. (a +ℤ setup *ℤ s.den) ≤ℤ pos 0) → IfSome (option_map (λ z. z *ℤ m) o) (λ a. (a +ℤ setup *ℤ (s.den *ℤ m)) ≤ℤ pos 0)
    flop-times setup None h = h
    flop-times setup (Some a) h =
        let b = times_assoc setup s.den m in
        let c = add-times a (setup *ℤ s.den) m in
        let g = grown _ _ h in
        let z = zero-*ℤ m in
        omega (arith, ints)

    setup-times : (l : ℕ) → KeepsSetup t s d l → KeepsSetup t (times_schedule m s) (times m d) l
    setup-times l = go (element_at t.flat l).flop
      where
        go : (b : Bool) →
            MatchBool b (IfSome (greatest_of (late_arrivals t s d l)) (λ a. (a +ℤ (element_at t.flat l).setup *ℤ s.den) ≤ℤ pos 0))
            ((int_max (pos 0) (departure d l) +ℤ (element_at t.flat l).setup *ℤ s.den) ≤ℤ width_of s (phase_of t.flat l)) →
            MatchBool b (IfSome (greatest_of (late_arrivals t (times_schedule m s) (times m d) l)) (λ a. (a +ℤ (element_at t.flat l).setup *ℤ (s.den *ℤ m)) ≤ℤ pos 0))
            ((int_max (pos 0) (departure (times m d) l) +ℤ (element_at t.flat l).setup *ℤ (s.den *ℤ m)) ≤ℤ width_of (times_schedule m s) (phase_of t.flat l))
        go true h = rw (greatest-times l) (flop-times (element_at t.flat l).setup (greatest_of (late_arrivals t s d l)) h)
        go false h = latch-times l h

    right-times : IsRight t s d → IsRight t (times_schedule m s) (times m d)
    right-times h = record {
      clock = clock-times h.clock;
      bounds = λ k e g. bound-times _ (h.bounds k e g);
      exact = exact-times h.exact;
      setup = λ l g. setup-times l (h.setup l g);
    }

pub right_at_each_denominator_lem : RightAtEachDenominator
right_at_each_denominator_lem t s d factor some right = right-times factor some t s d right
