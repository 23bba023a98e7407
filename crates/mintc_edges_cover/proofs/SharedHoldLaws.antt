-- A schedule that passes for a design passes for each design that it covers, where data reaches the same elements.
use Rattle.std.proofs.Common.{◌≡◌, ℕ, ◌<◌, ◌==◌, ℤ, pos, ◌≤ℤ◌, ◌+ℤ◌, ◌-ℤ◌, ◌*ℤ◌, Bool, true, false, List, map, length, get_or, Any, IsTrue, MatchBool, IfSome, ◌⊎◌, ⊎_elim, arith, refl, sym, ap, ◌∙◌, subst, cond, Option, Some, None}
use Rattle.std.proofs.lemmas.Int.{ints, clamps}
use Rattle.std.proofs.lemmas.Bool.{cases_Bool, eqb-true, eq-eqb}
use Rattle.std.proofs.lemmas.List.{get_or_default}
use Rattle.std.proofs.lemmas.List.FromFn.{length-map-range_with_len, get_or-map-range_with_len, length-range_with_len, get_or-range_with_len}
use Rattle.std.specs.List.{filter, range_with_len}
use Rattle.mintc_timing.specs.declared.parts.Pair.{Pair}
use Rattle.mintc_timing.specs.declared.clocking.Schedule.{Schedule}
use Rattle.mintc_timing.specs.Clocking.{shift_of, width_of}
use Rattle.mintc_timing.specs.Design.{Timing, element_at, element_count, phase_of, no_pair}
use Rattle.mintc_timing.specs.Departures.{departure, early_arrival, early_arrivals, early_opening, AreEarly}
use Rattle.mintc_timing.specs.Extremes.{greater_of, lesser_of, least_of}
use Rattle.mintc_timing.specs.Paths.{ArePairs, HasExtremes}
use Rattle.mintc_timing.specs.Right.{KeepsHold}
use Rattle.mintc_timing.specs.Violations.{elements_of}
use Rattle.mintc_timing.proofs.SharedProducts.{add-times, times-mono_positive}
use Rattle.mintc_departure.proofs.SharedLesser.{greater-from, least-some}
use Rattle.mintc_edges_cover.specs.Cover.{IsCover, PairLiesOn, IsFedAlike}
use Rattle.mintc_edges_cover.specs.Laws.{PassIsKept}
use Rattle.mintc_edges_cover.proofs.EarlyLaws.{StaysLater, early-flop, early-latch, early-mono, early-at_most, exact_has_early, least-at}
use Rattle.mintc_edges_cover.proofs.FixedLaws.{AtMost, everywhere}
use Rattle.mintc_edges_cover.proofs.LateLaws.{opening-sum}
use Rattle.mintc_edges_cover.proofs.SharedPathLaws.{pair_covered}
use Rattle.mintc_edges_cover.proofs.SharedRightLaws.{right_is_kept_lem}

greater-second : (b a : ℤ) (o : Option ℤ) → o ≡ Some a → a ≤ℤ greater_of b o
greater-second b a o is = rw is (omega (arith, ints, clamps))

plain-opening : (d x y wcq wdq ecq edq : ℤ) → x +ℤ wdq ≡ wcq → y +ℤ edq ≡ ecq → wcq ≤ℤ ecq → y ≤ℤ d → x ≤ℤ (d +ℤ (edq -ℤ wdq))
plain-opening d x y wcq wdq ecq edq low high more opens = omega (arith, ints)

plain-arrival : (b least first own d wdq edq : ℤ) → least ≡ b → least ≤ℤ first → first ≤ℤ own → own ≤ℤ d → wdq ≤ℤ edq → b ≤ℤ (d +ℤ (edq -ℤ wdq))
plain-arrival b least first own d wdq edq is low comes late more = omega (arith, ints)

plain-most : (x b z : ℤ) → x ≤ℤ z → b ≤ℤ z → greater_of x (Some b) ≤ℤ z
plain-most x b z h k = omega (arith, ints, clamps)

same-some : (a b : ℤ) → Some a ≡ Some b → a ≡ b
same-some a b h = cc

-- the pair into an element by which data comes first, where any comes
some_pair : (f : Pair → ℤ) (to : ℕ) (ps : List Pair) (a : ℤ) → least_of (map f (filter (λ (p : Pair). p.to == to) ps)) ≡ Some a →
    (n : ℕ) × (n < length ps) × ((get_or ps n no_pair).to ≡ to) × (a ≡ f (get_or ps n no_pair))
some_pair f to ps a is =
    ⊎_elim
    (λ none. absurd (let both : Some a ≡ None = sym is ∙ none in cc))
    (λ v. (v.0, v.1, eqb-true _ _ v.2, same-some a (f (get_or ps v.0 no_pair)) (sym is ∙ v.3)))
    (least-some f (λ (p : Pair). p.to == to) no_pair ps)

module _ (other t : Timing) (cover : IsCover other.flat t.flat) (wider : ArePairs other.flat other.pairs) (pairs : ArePairs t.flat t.pairs)
    (fed : IsFedAlike cover.element_on other t) (s : Schedule) (some : pos 1 ≤ℤ s.den)
    (theirs : List ℤ) (are_theirs : AreEarly other s theirs) (mine : List ℤ) (are_mine : AreEarly t s mine) where
  abbrev on : ℕ → ℕ
  on = cover.element_on

  -- when the element on which one lies would depart, for the output to come when that one's does
  abbrev back : ℕ → ℤ
  back m = departure mine m +ℤ ((element_at t.flat m).dq_min *ℤ s.den -ℤ (element_at other.flat (on m)).dq_min *ℤ s.den)

  -- the least of that, over the elements that lie on one, and of its own early departure
  abbrev over : ℕ → Option ℤ
  over l = least_of (map back (filter (λ m. on m == l) (elements_of t.flat)))

  abbrev backed_at : ℕ → ℤ
  backed_at l = cond (element_at other.flat l).flop (pos 0) (lesser_of (departure theirs l) (over l))

  abbrev backed : List ℤ
  backed = map backed_at (elements_of other.flat)

  backed-count : length backed ≡ element_count other.flat
  backed-count = length-map-range_with_len backed_at 0 (element_count other.flat)

  backed-is : (l : ℕ) → l < element_count other.flat → departure backed l ≡ backed_at l
  backed-is l h = get_or-map-range_with_len backed_at 0 (element_count other.flat) l l (pos 0) h (omega arith)

  backed-flop : (l : ℕ) → l < element_count other.flat → (element_at other.flat l).flop ≡ true → departure backed l ≡ pos 0
  backed-flop l h flop = backed-is l h ∙ ap (λ (b : Bool). cond b (pos 0) (lesser_of (departure theirs l) (over l))) flop

  backed-latch : (l : ℕ) → l < element_count other.flat → (element_at other.flat l).flop ≡ false → departure backed l ≡ lesser_of (departure theirs l) (over l)
  backed-latch l h latch = backed-is l h ∙ ap (λ (b : Bool). cond b (pos 0) (lesser_of (departure theirs l) (over l))) latch

  lesser-first : (x : ℤ) (o : Option ℤ) → lesser_of x o ≤ℤ x
  lesser-first x o = grind (arith, ints, clamps)

  backed-low : AtMost (element_count other.flat) backed theirs
  backed-low l h =
      ⊎_elim
      (λ flop. omega (arith, ints, backed-flop l h flop, are_theirs.exact.each l h, early-flop other s theirs l flop))
      (λ latch. rw (backed-latch l h latch) (lesser-first (departure theirs l) (over l)))
      (cases_Bool (element_at other.flat l).flop)

  same_flop : (m : ℕ) → m < element_count t.flat → (element_at t.flat m).flop ≡ (element_at other.flat (on m)).flop
  same_flop m h = (cover.elements m h).flop

  backed-at : (m : ℕ) → m < element_count t.flat → (element_at other.flat (on m)).flop ≡ false → departure backed (on m) ≤ℤ back m
  backed-at m h latch =
      let is : get_or (range_with_len 0 (element_count t.flat)) m 0 ≡ m = get_or-range_with_len 0 (element_count t.flat) m 0 h ∙ omega arith in
      let w = least-at back (λ k. on k == on m) (range_with_len 0 (element_count t.flat)) m 0 (rw (length-range_with_len 0 (element_count t.flat)) h) (rw is (eq-eqb (on m) (on m) refl)) in
      let low : w.0 ≤ℤ back m = subst (λ k. w.0 ≤ℤ back k) is w.2 in
      let value : departure backed (on m) ≡ lesser_of (departure theirs (on m)) (Some w.0) = backed-latch (on m) (cover.there m h) latch ∙ ap (lesser_of (departure theirs (on m))) w.1 in
      omega (arith, ints, clamps, low, value)

  -- the output of an element by these comes no later than those of all that lie on it
  backed-output : (m : ℕ) → m < element_count t.flat →
      (departure backed (on m) +ℤ (element_at other.flat (on m)).dq_min *ℤ s.den) ≤ℤ (departure mine m +ℤ (element_at t.flat m).dq_min *ℤ s.den)
  backed-output m h =
      let grow = times-mono_positive _ _ s.den (cover.elements m h).dq_min some in
      ⊎_elim
      (λ flop. omega (arith, ints, grow, backed-flop (on m) (cover.there m h) flop, are_mine.exact.each m h, early-flop t s mine m (same_flop m h ∙ flop)))
      (λ latch. omega (arith, ints, backed-at m h latch))
      (cases_Bool (element_at other.flat (on m)).flop)

  -- So data arrives no sooner along a pair than, by such departures, along the one on which that lies.
  arrival-kept : (d : List ℤ) →
      ((m : ℕ) → m < element_count t.flat → (departure d (on m) +ℤ (element_at other.flat (on m)).dq_min *ℤ s.den) ≤ℤ (departure mine m +ℤ (element_at t.flat m).dq_min *ℤ s.den)) →
      (p q : Pair) → p.from < element_count t.flat → p.to < element_count t.flat → PairLiesOn on p q → early_arrival other.flat s d q ≤ℤ early_arrival t.flat s mine p
  arrival-kept d outputs p q from to lies =
      let out = subst (λ v. (departure d v +ℤ (element_at other.flat v).dq_min *ℤ s.den) ≤ℤ (departure mine p.from +ℤ (element_at t.flat p.from).dq_min *ℤ s.den)) (sym lies.from) (outputs p.from from) in
      let first : phase_of t.flat p.from ≡ phase_of other.flat q.from = (cover.elements p.from from).phase ∙ ap (phase_of other.flat) (sym lies.from) in
      let second : phase_of t.flat p.to ≡ phase_of other.flat q.to = (cover.elements p.to to).phase ∙ ap (phase_of other.flat) (sym lies.to) in
      let shift : shift_of s (phase_of t.flat p.from) (phase_of t.flat p.to) ≡ shift_of s (phase_of other.flat q.from) (phase_of other.flat q.to) =
      ap (λ i. shift_of s i (phase_of t.flat p.to)) first ∙ ap (shift_of s (phase_of other.flat q.from)) second in
      let own = add-times (element_at t.flat p.from).dq_min p.min s.den in
      let other_sum = add-times (element_at other.flat q.from).dq_min q.min s.den in
      let more = times-mono_positive q.min p.min s.den lies.min some in
      omega (arith, ints, out, shift, own, other_sum, more)

  -- a pair into an element that data reaches, by which it comes first
  abbrev First : ℕ → Type 0
  First m = (n : ℕ) × (n < length t.pairs) × ((get_or t.pairs n no_pair).to ≡ m) × (least_of (early_arrivals t s mine m) ≡ Some (early_arrival t.flat s mine (get_or t.pairs n no_pair)))

  first_pair : (m : ℕ) → Any (λ p. p.to ≡ m) t.pairs → First m
  first_pair m w =
      let passes : ((get_or t.pairs w.0 w.1).to == m) ≡ true = eq-eqb _ m (ap (λ (p : Pair). p.to) w.3 ∙ w.4) in
      let found = least-at (early_arrival t.flat s mine) (λ (p : Pair). p.to == m) t.pairs w.0 w.1 w.2 passes in
      ⊎_elim
      (λ none. absurd (let both : Some found.0 ≡ None = sym found.1 ∙ none in cc))
      (λ v. (v.0, v.1, eqb-true _ _ v.2, v.3))
      (least-some (early_arrival t.flat s mine) (λ (p : Pair). p.to == m) no_pair t.pairs)

  -- a latch on which one lies opens no later than that one's output asks
  opens_at_most : (m : ℕ) → m < element_count t.flat → (element_at other.flat (on m)).flop ≡ false → early_opening other.flat s (on m) ≤ℤ back m
  opens_at_most m h latch =
      let e = element_at t.flat m in
      let w = element_at other.flat (on m) in
      let cq = times-mono_positive w.cq_min e.cq_min s.den (cover.elements m h).cq_min some in
      let departs : departure mine m ≡ greater_of (early_opening t.flat s m) (least_of (early_arrivals t s mine m)) = are_mine.exact.each m h ∙ early-latch t s mine m (same_flop m h ∙ latch) in
      let opens : early_opening t.flat s m ≤ℤ departure mine m = subst (λ v. early_opening t.flat s m ≤ℤ v) (sym departs) (greater-from (early_opening t.flat s m) (least_of (early_arrivals t s mine m))) in
      plain-opening (departure mine m) (early_opening other.flat s (on m)) (early_opening t.flat s m) (w.cq_min *ℤ s.den) (w.dq_min *ℤ s.den) (e.cq_min *ℤ s.den) (e.dq_min *ℤ s.den)
      (opening-sum w.cq_min w.dq_min s.den) (opening-sum e.cq_min e.dq_min s.den) cq opens

  -- and data comes to it first no later than that
  arrives_at_most : (m : ℕ) → m < element_count t.flat → (element_at other.flat (on m)).flop ≡ false → (b : ℤ) → least_of (early_arrivals other s backed (on m)) ≡ Some b → b ≤ℤ back m
  arrives_at_most m h latch b is =
      let dq = times-mono_positive _ _ s.den (cover.elements m h).dq_min some in
      let departs : departure mine m ≡ greater_of (early_opening t.flat s m) (least_of (early_arrivals t s mine m)) = are_mine.exact.each m h ∙ early-latch t s mine m (same_flop m h ∙ latch) in
      let reached = some_pair (early_arrival other.flat s backed) (on m) other.pairs b is in
      let arrives = fed m h (reached.0, get_or other.pairs reached.0 no_pair, reached.1, get_or_default other.pairs reached.0 (get_or other.pairs reached.0 no_pair) no_pair reached.1, reached.2) in
      let p = first_pair m arrives in
      let ex : HasExtremes t.flat (get_or t.pairs p.0 no_pair) = pairs.each p.0 no_pair p.1 in
      let q = pair_covered other.flat t.flat cover other.pairs wider (get_or t.pairs p.0 no_pair) ex in
      let comes = arrival-kept backed backed-output (get_or t.pairs p.0 no_pair) q.1 ex.from ex.to q.4 in
      let into : ((get_or other.pairs q.0 q.1).to == on m) ≡ true = eq-eqb _ (on m) (ap (λ (x : Pair). x.to) q.3 ∙ q.4.to ∙ ap on p.2) in
      let least = least-at (early_arrival other.flat s backed) (λ (x : Pair). x.to == on m) other.pairs q.0 q.1 q.2 into in
      let low : least.0 ≤ℤ early_arrival other.flat s backed q.1 = subst (λ (x : Pair). least.0 ≤ℤ early_arrival other.flat s backed x) q.3 least.2 in
      let value : least.0 ≡ b = same-some least.0 b (sym least.1 ∙ is) in
      let late : early_arrival t.flat s mine (get_or t.pairs p.0 no_pair) ≤ℤ departure mine m =
      subst (λ v. early_arrival t.flat s mine (get_or t.pairs p.0 no_pair) ≤ℤ v) (sym departs)
      (greater-second (early_opening t.flat s m) (early_arrival t.flat s mine (get_or t.pairs p.0 no_pair)) (least_of (early_arrivals t s mine m)) p.3) in
      plain-arrival b least.0 (early_arrival other.flat s backed q.1) (early_arrival t.flat s mine (get_or t.pairs p.0 no_pair)) (departure mine m)
      ((element_at other.flat (on m)).dq_min *ℤ s.den) ((element_at t.flat m).dq_min *ℤ s.den) value low comes late dq

  -- So what these departures make of a latch is no later than what each that lies on it asks.
  made_at_most : (m : ℕ) → m < element_count t.flat → (element_at other.flat (on m)).flop ≡ false → (o : Option ℤ) → least_of (early_arrivals other s backed (on m)) ≡ o →
      greater_of (early_opening other.flat s (on m)) o ≤ℤ back m
  made_at_most m h latch None is = opens_at_most m h latch
  made_at_most m h latch (Some b) is = plain-most (early_opening other.flat s (on m)) b (back m) (opens_at_most m h latch) (arrives_at_most m h latch b is)

  stays_latch : (l : ℕ) → l < element_count other.flat → (element_at other.flat l).flop ≡ false →
      greater_of (early_opening other.flat s l) (least_of (early_arrivals other s backed l)) ≤ℤ lesser_of (departure theirs l) (over l)
  stays_latch l h latch =
      let mono = early-mono other s backed theirs (everywhere (element_count other.flat) backed theirs backed-count are_theirs.exact.count backed-low) l in
      let first : greater_of (early_opening other.flat s l) (least_of (early_arrivals other s backed l)) ≤ℤ departure theirs l =
      (let a = early-latch other s backed l latch in let b = are_theirs.exact.each l h in omega (arith, ints, mono, a, b)) in
      ⊎_elim
      (λ none. rw none first)
      (λ w.
      let small : w.0 < element_count t.flat = rw (length-range_with_len 0 (element_count t.flat)) at w.1 in
      let is : get_or (range_with_len 0 (element_count t.flat)) w.0 0 ≡ w.0 = get_or-range_with_len 0 (element_count t.flat) w.0 0 small ∙ omega arith in
      let at : on w.0 ≡ l = ap on (sym is) ∙ eqb-true _ _ w.2 in
      let P : ℕ → Type 0 = λ v. greater_of (early_opening other.flat s v) (least_of (early_arrivals other s backed v)) ≤ℤ back w.0 in
      let second = subst P at (made_at_most w.0 small (ap (λ v. (element_at other.flat v).flop) at ∙ latch) _ refl) in
      let value : over l ≡ Some (back w.0) = w.3 ∙ ap (λ k. Some (back k)) is in
      rw value (omega (arith, ints, clamps, first, second)))
      (least-some back (λ m. on m == l) 0 (range_with_len 0 (element_count t.flat)))

  backed-stays : StaysLater other s backed
  backed-stays = record {
    count = backed-count;
    each = λ l h.
        ⊎_elim
        (λ flop. omega (arith, ints, early-flop other s backed l flop, backed-flop l h flop))
        (λ latch. rw (early-latch other s backed l latch, backed-latch l h latch) (stays_latch l h latch))
        (cases_Bool (element_at other.flat l).flop);
  }

  -- Outputs come no sooner than those of the elements on which they lie.
  outputs-kept : (m : ℕ) → m < element_count t.flat →
      (departure theirs (on m) +ℤ (element_at other.flat (on m)).dq_min *ℤ s.den) ≤ℤ (departure mine m +ℤ (element_at t.flat m).dq_min *ℤ s.den)
  outputs-kept m h =
      let below = early-at_most other s theirs backed are_theirs backed-stays (on m) (cover.there m h) in
      omega (arith, ints, below, backed-output m h)

  -- So each hold is kept.
  hold_by : (m : ℕ) → m < element_count t.flat → IsTrue (element_at t.flat m).has_hold → ((l : ℕ) → l < element_count other.flat → KeepsHold other s theirs l) →
      (o : Option ℤ) → least_of (early_arrivals t s mine m) ≡ o →
      IfSome o (λ a. MatchBool (element_at t.flat m).flop
      (((element_at t.flat m).hold *ℤ s.den) ≤ℤ (a +ℤ s.cycle))
      ((width_of s (phase_of t.flat m) +ℤ (element_at t.flat m).hold *ℤ s.den) ≤ℤ (a +ℤ s.cycle)))
  hold_by m h has holds None none = tt
  hold_by m h has holds (Some a) is =
      let reached = some_pair (early_arrival t.flat s mine) m t.pairs a is in
      let p : Pair = get_or t.pairs reached.0 no_pair in
      let ex : HasExtremes t.flat p = pairs.each reached.0 no_pair reached.1 in
      let to : p.to ≡ m = reached.2 in
      let value : a ≡ early_arrival t.flat s mine p = reached.3 in
      let q = pair_covered other.flat t.flat cover other.pairs wider p ex in
      let comes = arrival-kept theirs outputs-kept p q.1 ex.from ex.to q.4 in
      let into : ((get_or other.pairs q.0 q.1).to == on m) ≡ true = eq-eqb _ (on m) (ap (λ (x : Pair). x.to) q.3 ∙ q.4.to ∙ ap on to) in
      let least = least-at (early_arrival other.flat s theirs) (λ (x : Pair). x.to == on m) other.pairs q.0 q.1 q.2 into in
      let low : least.0 ≤ℤ early_arrival other.flat s theirs q.1 = subst (λ (x : Pair). least.0 ≤ℤ early_arrival other.flat s theirs x) q.3 least.2 in
      let within = cover.elements m h in
      let held = rw least.1 at (holds (on m) (cover.there m h) (within.has_hold has)) in
      let hold = times-mono_positive (element_at t.flat m).hold (element_at other.flat (on m)).hold s.den (within.hold has) some in
      let width : width_of s (phase_of t.flat m) ≡ width_of s (phase_of other.flat (on m)) = ap (width_of s) within.phase in
      ⊎_elim
      (λ flop. let there : (element_at other.flat (on m)).flop ≡ true = sym within.flop ∙ flop in let asked = rw there at held in rw flop (omega (arith, ints, asked, hold, low, comes, value)))
      (λ latch. let there : (element_at other.flat (on m)).flop ≡ false = sym within.flop ∙ latch in let asked = rw there at held in rw latch (omega (arith, ints, asked, hold, low, comes, value, width)))
      (cases_Bool (element_at t.flat m).flop)

pub pass_is_kept_lem : PassIsKept
pass_is_kept_lem other t cover limits wider kept fed s pass =
    let own = right_is_kept_lem other t cover wider kept.extremes s pass.0.0 pass.0.1 in
    let den = pass.0.1.clock.den in
    let early = exact_has_early t s limits kept den own.0 own.1.exact in (
      own,
      (
        early.0,
        early.1,
        λ m h has. hold_by other t cover wider kept.extremes fed s den pass.1.0 pass.1.1 early.0 early.1 m h has pass.1.2 _ refl,
      ),
    )
