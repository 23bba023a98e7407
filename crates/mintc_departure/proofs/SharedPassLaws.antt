-- a schedule breaks nothing exactly where it is right and keeps every hold
use Rattle.std.proofs.Common.{◌≡◌, ℕ, ◌+◌, ◌-◌, ◌<◌, ◌≤◌, ℤ, pos, ◌≤ℤ◌, ◌+ℤ◌, ◌-ℤ◌, ◌*ℤ◌, Bool, List, [], ◌∷◌, ◌++◌, map, Option, IfSome, MatchBool, IsTrue, ◌↔◌, inl, inr, arith, refl, sym, ◌∙◌, option_map}
use Rattle.std.proofs.lemmas.Int.{ints, clamps}
use Rattle.std.specs.Int.{int_max}
use Rattle.std.specs.List.{All, enumerate_from, filter_map, range_with_len}
use Rattle.std.proofs.lemmas.List.Elements.{All-nil, All-cons, All-head, All-tail}
use Rattle.mintc_timing.specs.declared.parts.Bound.{Bound}
use Rattle.mintc_timing.specs.declared.parts.Pair.{Pair}
use Rattle.mintc_timing.specs.declared.clocking.Schedule.{Schedule}
use Rattle.mintc_timing.specs.declared.violation.Broken.{Broken}
use Rattle.mintc_timing.specs.declared.violation.Broken.TheVariants as broken
use Rattle.mintc_timing.specs.declared.violation.Violation.{Violation}
use Rattle.mintc_timing.specs.Clocking.{start_of, width_of, end_of, time_of, crosses_of, feeds_of, least_width, EachPhase, KeepsApart, KeepsBound, KeepsClock}
use Rattle.mintc_timing.specs.Departures.{departure, into, late_arrival, late_arrivals, AreEarly, AreLate}
use Rattle.mintc_timing.specs.Design.{Timing, element_at, element_count, phase_count, phase_of}
use Rattle.mintc_timing.specs.Extremes.{greatest_of}
use Rattle.mintc_timing.specs.Right.{IsRight, KeepsHold, KeepsSetup}
use Rattle.mintc_timing.specs.Violations.{check, failed, phases_of, elements_of, cycle_checks, order_checks, span_checks, width_checks, apart_checks, bound_checks, clock_checks, setup_amount, setup_checks, hold_amount, hold_checks}
use Rattle.mintc_timing.proofs.SharedAmountLaws.{setups_have_amounts_lem, holds_have_amounts_lem}
use Rattle.mintc_timing.proofs.SharedDeterminedLaws.{early_are_determined_lem, late_are_determined_lem}
use Rattle.mintc_timing.proofs.SharedLoops.{no_loop}
use Rattle.mintc_departure.specs.Checks.{apart_check, bound_check, fed_checks}
use Rattle.mintc_departure.specs.Laws.{IsOfPhases, IsPass, PassIsRightWithLate, PassMeansRight}
use Rattle.mintc_departure.proofs.EarlyLaws.{everywhere}
use Rattle.mintc_departure.proofs.Greater.{greatest-mono}
use Rattle.mintc_departure.proofs.KeptLaws.{IsKept, moved, nil-right, kept-cons, kept-append, kept-map, kept-flat, kept-tested, kept-optional, on_range}
use Rattle.mintc_departure.proofs.SharedLesser.{IsNoLater}
use Rattle.mintc_departure.proofs.NetworkLaws.{arrival-is}

-- the checks of bounds, whatever their numbers
bounds-kept : (s : Schedule) (n : ℕ) (bounds : List Bound) → (failed (map (bound_check s) (enumerate_from n bounds)) ≡ []) ↔ All (KeepsBound s) bounds
bounds-kept s n [] = ((λ e. All-nil (KeepsBound s)), (λ h. refl))
bounds-kept s n (b ∷ bounds) =
    let first = kept-cons (bound_check s (n, b)) (map (bound_check s) (enumerate_from (n + 1) bounds)) in
    let one = moved (time_of s b.from +ℤ b.gap *ℤ s.den -ℤ pos b.cycles *ℤ s.cycle) (time_of s b.to) in
    let rest = bounds-kept s (n + 1) bounds in (
      (λ e. let h = first.0 e in All-cons (KeepsBound s) b bounds (one.0 h.0) (rest.0 h.1)),
      (λ h. first.1 (one.1 (All-head (KeepsBound s) b bounds h), rest.1 (All-tail (KeepsBound s) b bounds h))),
    )

-- the checks of a rule at each of the first n phases
rule-kept : (rule : ℕ → Broken) (x y : ℕ → ℤ) (n : ℕ) → (failed (map (λ p. check (rule p) (x p -ℤ y p)) (range_with_len 1 n)) ≡ []) ↔ ((p : ℕ) → 1 ≤ p → p ≤ n → x p ≤ℤ y p)
rule-kept rule x y n =
    let each = kept-map (λ p. check (rule p) (x p -ℤ y p)) (range_with_len 1 n) in
    let all = on_range (λ p. IsKept (check (rule p) (x p -ℤ y p))) 1 n in (
      (λ e p low high. (moved (x p) (y p)).0 (all.0 (each.0 e) p low (omega arith))),
      (λ h. each.1 (all.1 (λ p low high. (moved (x p) (y p)).1 (h p low (omega arith))))),
    )

module _ (t : Timing) (s : Schedule) where
  aparts-kept : (failed (apart_checks t s) ≡ []) ↔ ((i : ℕ) → 1 ≤ i → i ≤ phase_count t.flat → EachPhase t.flat (KeepsApart t s i))
  aparts-kept =
      let all = kept-flat (fed_checks t s) (phases_of t.flat) in
      let each = on_range (λ i. failed (fed_checks t s i) ≡ []) 1 (phase_count t.flat) in
      let one = λ (i : ℕ). kept-tested (apart_check s i) (feeds_of t i) (phases_of t.flat) in
      let some = λ (i : ℕ). on_range (λ j. IsTrue (feeds_of t i j) → IsKept (apart_check s i j)) 1 (phase_count t.flat) in
      let move = λ (i j : ℕ). moved (end_of s j -ℤ pos (crosses_of j i) *ℤ s.cycle) (start_of s i) in (
        (λ e i low high j low' high' fed. (move i j).0 ((some i).0 ((one i).0 (each.0 (all.0 e) i low (omega arith))) j low' (omega arith) fed)),
        (λ h. all.1 (each.1 (λ i low high. (one i).1 ((some i).1 (λ j low' high' fed. (move i j).1 (h i low (omega arith) j low' (omega arith) fed)))))),
      )

  clock-kept : IsOfPhases t.flat s → (failed (clock_checks t s) ≡ []) ↔ (KeepsClock t s × All (KeepsBound s) t.flat.bounds)
  clock-kept plain =
      let n : ℕ = phase_count t.flat in
      let cycle = rule-kept (λ p. broken.Cycle p) (start_of s) (λ p. s.cycle) n in
      let order = rule-kept (λ p. broken.Order p) (start_of s) (λ p. start_of s (p + 1)) (n - 1) in
      let span = rule-kept (λ p. broken.Span p) (width_of s) (λ p. s.cycle) n in
      let wide = rule-kept (λ p. broken.Width p) (λ p. least_width t.flat p *ℤ s.den) (width_of s) n in
      let bounds = bounds-kept s 0 t.flat.bounds in
      let two = kept-append (cycle_checks t.flat s) (order_checks t.flat s) in
      let three = kept-append (cycle_checks t.flat s ++ order_checks t.flat s) (span_checks t.flat s) in
      let four = kept-append (cycle_checks t.flat s ++ order_checks t.flat s ++ span_checks t.flat s) (width_checks t.flat s) in
      let five = kept-append (cycle_checks t.flat s ++ order_checks t.flat s ++ span_checks t.flat s ++ width_checks t.flat s) (apart_checks t s) in
      let six = kept-append (cycle_checks t.flat s ++ order_checks t.flat s ++ span_checks t.flat s ++ width_checks t.flat s ++ apart_checks t s) (bound_checks t.flat s) in (
        (λ e.
            let f = six.0 e in
            let d = five.0 f.0 in
            let c = four.0 d.0 in
            let b = three.0 c.0 in
            let a = two.0 b.0 in
            let clock : KeepsClock t s = record {
              den = plain.den;
              starts = plain.starts;
              widths = plain.widths;
              each = λ p low high. record {
                start = (plain.from_zero (p - 1) (pos 0) (let count = plain.starts in omega arith), cycle.0 a.0 p low high);
                span = (plain.not_negative (p - 1) (pos 0) (let count = plain.widths in omega arith), span.0 b.1 p low high);
                order = λ next. order.0 a.1 p low (omega arith);
                wide = wide.0 c.1 p low high;
                apart = aparts-kept.0 d.1 p low high;
              };
            } in
            (clock, bounds.0 f.1)),
        (λ k.
            let each = k.0.each in
            let cycles = cycle.1 (λ p low high. (each p low high).start.1) in
            let orders = order.1 (λ p low high. (each p low (omega arith)).order (omega arith)) in
            let spans = span.1 (λ p low high. (each p low high).span.1) in
            let widths = wide.1 (λ p low high. (each p low high).wide) in
            six.1 (five.1 (four.1 (three.1 (two.1 (cycles, orders), spans), widths), aparts-kept.1 (λ i low high. (each i low high).apart)), bounds.1 k.1)),
      )

  elements-kept : (amount : ℕ → Option ℤ) (constraint : ℕ → Broken) (P : ℕ → Type 0) → ((l : ℕ) → P l ↔ IfSome (amount l) (λ x. x ≤ℤ pos 0)) →
      (failed (filter_map (λ l. option_map (check (constraint l)) (amount l)) (elements_of t.flat)) ≡ []) ↔ ((l : ℕ) → l < element_count t.flat → P l)
  elements-kept amount constraint P have =
      let each = kept-optional constraint amount (elements_of t.flat) in
      let all = on_range (λ l. IfSome (amount l) (λ x. x ≤ℤ pos 0)) 0 (element_count t.flat) in
      ((λ e l h. (have l).1 (all.0 (each.0 e) l (omega arith) (omega arith))), (λ h. each.1 (all.1 (λ l low high. (have l).0 (h l (omega arith))))))

  setups-kept : (late : List ℤ) → (failed (setup_checks t s late) ≡ []) ↔ ((l : ℕ) → l < element_count t.flat → KeepsSetup t s late l)
  setups-kept late = elements-kept (setup_amount t s late) (λ l. broken.Setup l) (KeepsSetup t s late) (setups_have_amounts_lem t s late)

  holds-kept : (early : List ℤ) → (failed (hold_checks t s early) ≡ []) ↔ ((l : ℕ) → l < element_count t.flat → KeepsHold t s early l)
  holds-kept early = elements-kept (hold_amount t s early) (λ l. broken.Hold l) (KeepsHold t s early) (holds_have_amounts_lem t s early)

  -- Departures that are nowhere later keep each setup that is kept.
  later-arrival : (d e : List ℤ) (p : Pair) → departure d p.from ≤ℤ departure e p.from → late_arrival t.flat s d p ≤ℤ late_arrival t.flat s e p
  later-arrival d e p h = rw (arrival-is t s d p, arrival-is t s e p) (omega (arith, ints))

  setup-kept : (flop : Bool) (o p : Option ℤ) (setup x y width : ℤ) → IsNoLater o p → x ≤ℤ y →
      MatchBool flop (IfSome p (λ a. (a +ℤ setup) ≤ℤ pos 0)) ((int_max (pos 0) y +ℤ setup) ≤ℤ width) →
      MatchBool flop (IfSome o (λ a. (a +ℤ setup) ≤ℤ pos 0)) ((int_max (pos 0) x +ℤ setup) ≤ℤ width)
  setup-kept flop o p setup x y width n h k = grind (arith, ints, clamps)

  KeepsSetup-mono : (d e : List ℤ) → ((l : ℕ) → departure d l ≤ℤ departure e l) → (l : ℕ) → KeepsSetup t s e l → KeepsSetup t s d l
  KeepsSetup-mono d e h l =
      setup-kept (element_at t.flat l).flop (greatest_of (late_arrivals t s d l)) (greatest_of (late_arrivals t s e l)) ((element_at t.flat l).setup *ℤ s.den) (departure d l) (departure e l) (width_of s (phase_of t.flat l))
      (greatest-mono (late_arrival t.flat s d) (late_arrival t.flat s e) (λ p. later-arrival d e p (h p.from)) (into t l)) (h l)

  abbrev all_checks : List ℤ → List ℤ → List Violation
  all_checks late early = clock_checks t s ++ setup_checks t s late ++ hold_checks t s early

  pass-from_none : IsOfPhases t.flat s → (late early : List ℤ) → AreLate t s late → AreEarly t s early → failed (all_checks late early) ≡ [] → IsPass t s
  pass-from_none plain late early are_late are_early e =
      let b = (kept-append (clock_checks t s ++ setup_checks t s late) (hold_checks t s early)).0 e in
      let a = (kept-append (clock_checks t s) (setup_checks t s late)).0 b.0 in
      let k = (clock-kept plain).0 a.0 in (
        (late, record { clock = k.0; bounds = k.1; exact = are_late.exact; setup = (setups-kept late).0 a.1 }),
        (early, are_early, (holds-kept early).0 b.1),
      )

  none-from_pass : IsOfPhases t.flat s → (late early : List ℤ) → AreLate t s late → AreEarly t s early → IsPass t s → failed (all_checks late early) ≡ []
  none-from_pass plain late early are_late are_early pass =
      let right : IsRight t s pass.0.0 = pass.0.1 in
      let below : (l : ℕ) → departure late l ≤ℤ departure pass.0.0 l = everywhere t s late pass.0.0 are_late.exact.count right.exact.count (are_late.least pass.0.0 right.exact) in
      let clock = (clock-kept plain).1 (right.clock, right.bounds) in
      let setups = (setups-kept late).1 (λ l h. KeepsSetup-mono late pass.0.0 below l (right.setup l h)) in
      let same : pass.1.0 ≡ early = early_are_determined_lem t s pass.1.0 early pass.1.1 are_early in
      let holds = (holds-kept early).1 (λ l h. rw same at (pass.1.2 l h)) in
      (kept-append (clock_checks t s ++ setup_checks t s late) (hold_checks t s early)).1 ((kept-append (clock_checks t s) (setup_checks t s late)).1 (clock, setups), holds)

no_end : {X : Type 0} (xs : List X) (x : X) (ys : List X) → ys ≡ xs ++ x ∷ [] → ys ≡ [] → ⊥
no_end xs x ys is e = let last = nil-right xs (x ∷ []) (sym is ∙ e) in absurd (cc)

pub pass_means_right_lem : PassMeansRight
pass_means_right_lem t s vs pairs plain (inl h) = (
  (λ e. absurd (no_end (failed (clock_checks t s)) (check (broken.Loop h.0) h.1) vs h.3 e)),
  (λ pass. let right : IsRight t s pass.0.0 = pass.0.1 in absurd (no_loop t s pass.0.0 right.exact pairs.each h.0 h.1 h.2)),
)
pass_means_right_lem t s vs pairs plain (inr h) = (
  (λ e. pass-from_none t s plain h.1.0 h.1.1 h.1.2 h.1.3 (sym h.1.4 ∙ e)),
  (λ pass. h.1.4 ∙ none-from_pass t s plain h.1.0 h.1.1 h.1.2 h.1.3 pass),
)

pub pass_is_right_with_late_lem : PassIsRightWithLate
unfolding pass-from_none
pass_is_right_with_late_lem t s late pairs plain (inl h) is =
    absurd (no_end (failed (clock_checks t s)) (check (broken.Loop h.0) h.1) [] h.3 refl)
pass_is_right_with_late_lem t s late pairs plain (inr h) is =
    let pass = pass-from_none t s plain h.1.0 h.1.1 h.1.2 h.1.3 (sym h.1.4) in
    rw (late_are_determined_lem t s h.1.0 late h.1.2 is) at pass.0.1
