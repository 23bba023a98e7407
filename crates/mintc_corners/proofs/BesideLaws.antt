-- Two timings side by side.
use Rattle.std.proofs.Common.{◌≡◌, ℕ, ◌<◌, ◌+◌, ◌==◌, ℤ, pos, ◌≤ℤ◌, ◌+ℤ◌, ◌-ℤ◌, ◌*ℤ◌, Bool, true, false, cond, List, [], ◌∷◌, ◌++◌, length, take, drop, map, arith, refl, ap, ◌∙◌, sym, subst, ⊎_elim, ◌↔◌, IfSome, MatchBool, length-append, length-drop}
use Rattle.std.proofs.Math.Seq.{drop-append_seam, take-append_seam}
use Rattle.std.proofs.lemmas.Int.{ints, clamps, by_lt_z}
use Rattle.std.proofs.lemmas.Bool.Decides.{nat_tests}
use Rattle.std.proofs.lemmas.List.{append-nil, get_or-drop, get_or-take, length-take, length-take-le}
use Rattle.std.proofs.lemmas.List.Elements.{All-head, All-tail, filter-append}
use Rattle.std.specs.List.{All, filter}
use Rattle.std.specs.Int.{int_max}
use Rattle.mintc_timing.specs.declared.clocking.Schedule.{Schedule}
use Rattle.mintc_timing.specs.declared.parts.Element.{Element}
use Rattle.mintc_timing.specs.declared.parts.Pair.{Pair}
use Rattle.mintc_timing.specs.Clocking.{width_of, feeds_of, shift_of, least_width, KeepsBound, KeepsClock}
use Rattle.mintc_timing.specs.Departures.{departure, late_arrival, late_arrivals, late_departure}
use Rattle.mintc_timing.specs.Design.{Timing, element_at, element_count, phase_count}
use Rattle.mintc_timing.specs.Extremes.{greater_of, greatest_of}
use Rattle.mintc_timing.specs.Right.{IsRight, KeepsSetup}
use Rattle.mintc_timing.proofs.SharedProducts.{times-mono_positive}
use Rattle.mintc_timing.specs.Paths.{HasEnds}
use Rattle.mintc_corners.specs.Joint.{beside, shifted_pair}
use Rattle.mintc_corners.specs.Laws.{BesideIsBoth, HaveOneClock}
use Rattle.mintc_corners.proofs.PartsLaws.{each-element, element_beside_left, element_beside_right, feeds-cases, feeds-left, feeds-right, width_beside}

-- A product with the greater of two numbers is at most what those with each are.
max-times : (x y den w : ℤ) → (x *ℤ den) ≤ℤ w → (y *ℤ den) ≤ℤ w → (int_max x y *ℤ den) ≤ℤ w
max-times x y den w first second =
    by_lt_z x y
    (λ less. let is : int_max x y ≡ y = omega (arith, ints, clamps) in rw is second)
    (λ more. let is : int_max x y ≡ x = omega (arith, ints, clamps) in rw is first)

-- A clock that keeps what one timing asks, keeps what another asks that asks less.
clock-part : (b x : Timing) (s : Schedule) → phase_count x.flat ≡ phase_count b.flat → ((p : ℕ) → least_width x.flat p ≤ℤ least_width b.flat p) → ((i j : ℕ) → feeds_of x i j ≡ true → feeds_of b i j ≡ true) →
    KeepsClock b s → KeepsClock x s
clock-part b x s same narrower feeds k = record {
  den = k.den;
  starts = k.starts ∙ sym same;
  widths = k.widths ∙ sym same;
  each = λ p low high.
      let here = k.each p low (omega arith) in
      let less = times-mono_positive (least_width x.flat p) (least_width b.flat p) s.den (narrower p) k.den in
      record {
        start = here.start;
        span = here.span;
        order = λ below. here.order (omega arith);
        wide = omega (arith, ints);
        apart = λ j g h fed. here.apart j g (omega arith) (feeds p j fed);
      };
}

-- an arrival, as it follows from the two elements of a pair
abbrev arrives : Schedule → ℤ → Element → Element → ℤ → ℤ
arrives s own x y max = own +ℤ (x.dq_max +ℤ max) *ℤ s.den +ℤ shift_of s x.phase y.phase

arrival-same : (s : Schedule) (own own' : ℤ) (x x' y y' : Element) (max : ℤ) → own ≡ own' → x ≡ x' → y ≡ y' → arrives s own x y max ≡ arrives s own' x' y' max
arrival-same s own own' x x' y y' max e f g = rw (e, f, g) refl

-- of one more pair, where it is kept
kept-more : (f g : Pair → ℤ) (p q : Pair) (ps qs : List Pair) (c : Bool) → f p ≡ g q → map f ps ≡ map g qs → map f (cond c (p ∷ ps) ps) ≡ map g (cond c (q ∷ qs) qs)
kept-more f g p q ps qs true e rest = ap (λ (x : ℤ). x ∷ map f ps) e ∙ ap (λ (xs : List ℤ). g q ∷ xs) rest
kept-more f g p q ps qs false e rest = rest

-- departures and setups, as they follow from an element, its arrivals and its departure
abbrev departs : Schedule → Element × List ℤ × ℤ → ℤ
departs s x = cond x.0.flop (pos 0) (greater_of ((x.0.cq_max -ℤ x.0.dq_max) *ℤ s.den) (greatest_of x.1))

abbrev Asks : Schedule → Element × List ℤ × ℤ → Type 0
Asks s x = MatchBool x.0.flop (IfSome (greatest_of x.1) (λ a. (a +ℤ x.0.setup *ℤ s.den) ≤ℤ pos 0)) ((int_max (pos 0) x.2 +ℤ x.0.setup *ℤ s.den) ≤ℤ width_of s x.0.phase)

abbrev timed : Timing → Schedule → List ℤ → ℕ → Element × List ℤ × ℤ
timed t s f l = (element_at t.flat l, late_arrivals t s f l, departure f l)

module _ (t u : Timing) (s : Schedule) (f : List ℤ) (clock : HaveOneClock t.flat u.flat) (ends : HasEnds t) where
  abbrev n : ℕ
  n = element_count t.flat

  abbrev b : Timing
  b = beside t u

  abbrev d : List ℤ
  d = take n f

  abbrev e : List ℤ
  e = drop n f

  abbrev HasEnd : Pair → Type 0
  HasEnd p = (p.from < n) × (p.to < n)

  departs-left : (l : ℕ) → l < n → departure f l ≡ departure d l
  departs-left l h = sym (get_or-take n f l (pos 0) h)

  departs-right : (l : ℕ) → departure f (n + l) ≡ departure e l
  departs-right l = sym (get_or-drop n f l (pos 0))

  arrival-left : (p : Pair) → HasEnd p → late_arrival b.flat s f p ≡ late_arrival t.flat s d p
  arrival-left p h = arrival-same s _ _ _ _ _ _ p.max (departs-left p.from h.0) (element_beside_left t u p.from h.0) (element_beside_left t u p.to h.1)

  arrival-right : (q : Pair) → late_arrival b.flat s f (shifted_pair n q) ≡ late_arrival u.flat s e q
  arrival-right q = arrival-same s _ _ _ _ _ _ q.max (departs-right q.from) (element_beside_right t u q.from) (element_beside_right t u q.to)

  none-right : (l : ℕ) → l < n → (qs : List Pair) → filter (λ (p : Pair). p.to == l) (map (shifted_pair n) qs) ≡ []
  none-right l h [] = refl
  none-right l h (q ∷ qs) =
      let no : ((n + q.to) == l) ≡ false = grind (arith, nat_tests) in
      rw no (none-right l h qs)

  none-left : (l : ℕ) (ps : List Pair) → All HasEnd ps → filter (λ (p : Pair). p.to == n + l) ps ≡ []
  none-left l [] h = refl
  none-left l (p ∷ ps) h =
      let low = (All-head HasEnd p ps h).1 in
      let no : (p.to == (n + l)) ≡ false = grind (arith, nat_tests) in
      rw no (none-left l ps (All-tail HasEnd p ps h))

  some-left : (l : ℕ) (ps : List Pair) → All HasEnd ps → map (late_arrival b.flat s f) (filter (λ (p : Pair). p.to == l) ps) ≡ map (late_arrival t.flat s d) (filter (λ (p : Pair). p.to == l) ps)
  some-left l [] h = refl
  some-left l (p ∷ ps) h = kept-more (late_arrival b.flat s f) (late_arrival t.flat s d) p p _ _ (p.to == l) (arrival-left p (All-head HasEnd p ps h)) (some-left l ps (All-tail HasEnd p ps h))

  some-right : (l : ℕ) (qs : List Pair) → map (late_arrival b.flat s f) (filter (λ (p : Pair). p.to == n + l) (map (shifted_pair n) qs)) ≡ map (late_arrival u.flat s e) (filter (λ (p : Pair). p.to == l) qs)
  some-right l [] = refl
  some-right l (q ∷ qs) =
      let same : ((n + q.to) == (n + l)) ≡ (q.to == l) = grind (arith, nat_tests) in
      rw same (kept-more (late_arrival b.flat s f) (late_arrival u.flat s e) (shifted_pair n q) q _ _ (q.to == l) (arrival-right q) (some-right l qs))

  arrivals-left : (l : ℕ) → l < n → late_arrivals b s f l ≡ late_arrivals t s d l
  arrivals-left l h =
      rw (filter-append (λ (p : Pair). p.to == l) t.pairs (map (shifted_pair n) u.pairs), none-right l h u.pairs, append-nil (filter (λ (p : Pair). p.to == l) t.pairs)) (some-left l t.pairs ends)

  arrivals-right : (l : ℕ) → late_arrivals b s f (n + l) ≡ late_arrivals u s e l
  arrivals-right l = rw (filter-append (λ (p : Pair). p.to == n + l) t.pairs (map (shifted_pair n) u.pairs), none-left l t.pairs ends) (some-right l u.pairs)

  -- so each element asks the same in both
  timed-left : (l : ℕ) → l < n → timed b s f l ≡ timed t s d l
  timed-left l h = rw (arrivals-left l h, element_beside_left t u l h, departs-left l h) refl

  timed-right : (l : ℕ) → timed b s f (n + l) ≡ timed u s e l
  timed-right l = rw (arrivals-right l, element_beside_right t u l, departs-right l) refl

  late-left : (l : ℕ) → l < n → late_departure b s f l ≡ late_departure t s d l
  late-left l h = ap (departs s) (timed-left l h)

  late-right : (l : ℕ) → late_departure b s f (n + l) ≡ late_departure u s e l
  late-right l = ap (departs s) (timed-right l)

  -- the clock
  clock-left : KeepsClock b s → KeepsClock t s
  clock-left = clock-part b t s refl (λ p. let both = width_beside t u p in omega (arith, ints, clamps)) (feeds-left t u ends)

  clock-right : KeepsClock b s → KeepsClock u s
  clock-right = clock-part b u s clock.phases (λ p. let both = width_beside t u p in omega (arith, ints, clamps)) (feeds-right t u ends)

  clock-beside : KeepsClock t s → KeepsClock u s → KeepsClock b s
  clock-beside k m = record {
    den = k.den;
    starts = k.starts;
    widths = k.widths;
    each = λ p low high.
        let here = k.each p low high in
        let other = m.each p low (omega arith) in
        record {
          start = here.start;
          span = here.span;
          order = here.order;
          wide = rw (width_beside t u p) (max-times (least_width t.flat p) (least_width u.flat p) s.den (width_of s p) here.wide other.wide);
          apart = λ j g h fed. ⊎_elim
              (λ (own : feeds_of t p j ≡ true). here.apart j g h own)
              (λ (its : feeds_of u p j ≡ true). other.apart j g (omega arith) its)
              (feeds-cases t u ends p j fed);
        };
  }

  abbrev m : ℕ
  m = element_count u.flat

  count-beside : element_count b.flat ≡ n + m
  count-beside = length-append t.flat.elements u.flat.elements

  right-left : IsRight b s f → IsRight t s d
  right-left right =
      let all = count-beside in
      record {
        clock = clock-left right.clock;
        bounds = right.bounds;
        exact = record {
          count = length-take-le n f (omega arith);
          each = λ l h. sym (departs-left l h) ∙ right.exact.each l (omega arith) ∙ late-left l h;
        };
        setup = λ l h. subst (Asks s) (timed-left l h) (right.setup l (omega arith));
      }

  right-right : IsRight b s f → IsRight u s e
  right-right right =
      let all = count-beside in
      record {
        clock = clock-right right.clock;
        bounds = subst (All (KeepsBound s)) (sym clock.bounds) right.bounds;
        exact = record {
          count = length-drop n f ∙ (omega arith);
          each = λ l h. sym (departs-right l) ∙ right.exact.each (n + l) (omega arith) ∙ late-right l;
        };
        setup = λ l h. subst (Asks s) (timed-right l) (right.setup (n + l) (omega arith));
      }

  right-beside : IsRight t s d → IsRight u s e → IsRight b s f
  right-beside one two = record {
    clock = clock-beside one.clock two.clock;
    bounds = one.bounds;
    exact = record {
      count =
          (let all = count-beside in
          let taken = length-take n f in
          let dropped = length-drop n f in
          omega arith);
      each = each-element t u (λ l. departure f l ≡ late_departure b s f l)
          (λ l h. departs-left l h ∙ one.exact.each l h ∙ sym (late-left l h))
          (λ l h. departs-right l ∙ two.exact.each l h ∙ sym (late-right l));
    };
    setup = each-element t u (KeepsSetup b s f) (λ l h. subst (Asks s) (sym (timed-left l h)) (one.setup l h)) (λ l h. subst (Asks s) (sym (timed-right l)) (two.setup l h));
  }

pub beside_is_both_lem : BesideIsBoth
beside_is_both_lem t u s f clock ends =
    ((λ right. (right-left t u s f clock ends right, right-right t u s f clock ends right)), (λ both. right-beside t u s f clock ends both.0 both.1))

-- the same of departures in two parts
pub beside_in_parts : (t u : Timing) (s : Schedule) (d e : List ℤ) → HaveOneClock t.flat u.flat → HasEnds t → length d ≡ element_count t.flat → IsRight (beside t u) s (d ++ e) ↔ (IsRight t s d × IsRight u s e)
beside_in_parts t u s d e clock ends count =
    let front : take (element_count t.flat) (d ++ e) ≡ d = ap (λ (n : ℕ). take n (d ++ e)) (sym count) ∙ take-append_seam d e in
    let back : drop (element_count t.flat) (d ++ e) ≡ e = ap (λ (n : ℕ). drop n (d ++ e)) (sym count) ∙ drop-append_seam d e in
    rw (front, back) at (beside_is_both_lem t u s (d ++ e) clock ends)
