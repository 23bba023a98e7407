-- A schedule that is right for a design is right for each design that it covers.
use Rattle.std.proofs.Common.{◌≡◌, ℕ, ◌<◌, ◌==◌, ℤ, pos, ◌≤ℤ◌, ◌+ℤ◌, ◌-ℤ◌, ◌*ℤ◌, Bool, true, false, List, Any, All, ◌⊎◌, ⊎_elim, arith, refl, sym, ap, ◌∙◌, subst, Option, Some, None}
use Rattle.std.proofs.lemmas.Int.{ints, clamps, by_lt_z}
use Rattle.std.proofs.lemmas.Bool.{cases_Bool, eqb-true, eq-eqb}
use Rattle.std.proofs.lemmas.List.Elements.{All-contains}
use Rattle.std.specs.Int.{int_max}
use Rattle.mintc_timing.specs.declared.parts.Pair.{Pair}
use Rattle.mintc_timing.specs.declared.clocking.Schedule.{Schedule}
use Rattle.mintc_timing.specs.Clocking.{width_of, KeepsBound}
use Rattle.mintc_timing.specs.Design.{Timing, element_at, element_count, phase_of}
use Rattle.mintc_timing.specs.Departures.{late_arrival, late_arrivals}
use Rattle.mintc_timing.specs.Extremes.{greatest_of, IsGreatest}
use Rattle.mintc_timing.specs.Paths.{ArePairs, HasExtremes}
use Rattle.mintc_timing.specs.Right.{IsRight, KeepsSetup}
use Rattle.mintc_timing.proofs.SharedExtremesLaws.{greatest_is}
use Rattle.mintc_timing.proofs.SharedProducts.{times-mono_positive, times-cancel_positive, swap-times}
use Rattle.mintc_timing.proofs.SharedSetupLaws.{KeepsSetup-flop, KeepsSetup-latch}
use Rattle.mintc_edges_cover.specs.Cover.{IsCover}
use Rattle.mintc_edges_cover.specs.Laws.{RightIsKept, LeastCycleIsNoGreater, HopelessOnlyWhere}
use Rattle.mintc_edges_cover.proofs.SharedArrivalLaws.{Exact, arrival-mono}
use Rattle.mintc_edges_cover.proofs.SharedClockLaws.{clock-kept}
use Rattle.mintc_edges_cover.proofs.LateLaws.{carried, carried-latch, other_opens, arrival-kept, exact_below}
use Rattle.mintc_edges_cover.proofs.SharedPathLaws.{pair_covered}

-- an order with the greater of 0 and a number, times a positive number
scaled-opening : (x y den : ℤ) → x ≤ℤ int_max (pos 0) y → pos 1 ≤ℤ den → (x *ℤ den) ≤ℤ int_max (pos 0) (y *ℤ den)
scaled-opening x y den h some =
    by_lt_z (pos 0) y
    (λ above.
    let grown = times-mono_positive x y den (omega (arith, ints, clamps, h, above)) some in
    omega (arith, ints, clamps, grown))
    (λ below.
    let grown = times-mono_positive x (pos 0) den (omega (arith, ints, clamps, h, below)) some in
    omega (arith, ints, clamps, grown))

not_both : (b : Bool) → b ≡ true → b ≡ false → ⊥
not_both b h k = cc

module _ (other t : Timing) (cover : IsCover other.flat t.flat) (wider : ArePairs other.flat other.pairs) (pairs : ArePairs t.flat t.pairs)
    (s : Schedule) (d : List ℤ) (right : IsRight other s d) where
  lowest : Exact t s (carried other t cover wider pairs s right.clock.den d right.exact)
  lowest = exact_below other t cover wider pairs s right.clock.den d right.exact

  abbrev own : List ℤ
  own = lowest.0

  setup-latch : (m : ℕ) → m < element_count t.flat → (element_at t.flat m).flop ≡ false → KeepsSetup t s own m
  setup-latch m h latch =
      let e = element_at t.flat m in
      let o = element_at other.flat (cover.element_on m) in
      let within = cover.elements m h in
      let theirs = (KeepsSetup-latch other s d (cover.element_on m) (sym within.flop ∙ latch)).0 (right.setup (cover.element_on m) (cover.there m h)) in
      let width : width_of s (phase_of t.flat m) ≡ width_of s (phase_of other.flat (cover.element_on m)) = ap (width_of s) within.phase in
      let below = lowest.2 m h in
      let is = carried-latch other t cover wider pairs s right.clock.den d right.exact m h latch in
      let opens = other_opens other t cover wider pairs s right.clock.den d right.exact m h latch in
      let opening = scaled-opening (e.cq_max -ℤ e.dq_max) (o.cq_max -ℤ o.dq_max) s.den within.opening right.clock.den in
      let setup = times-mono_positive e.setup o.setup s.den within.setup right.clock.den in
      (KeepsSetup-latch t s own m latch).1 (omega (arith, ints, clamps, theirs, width, below, is, opens, opening, setup))

  -- a flop's latest arrival, that of the flop on which it lies, and its setup
  flop_by : (m : ℕ) → m < element_count t.flat → (element_at other.flat (cover.element_on m)).flop ≡ true → (q : Pair) → Any (λ x. x ≡ q) other.pairs →
      q.to ≡ cover.element_on m → (o : Option ℤ) → greatest_of (late_arrivals other s d (cover.element_on m)) ≡ o →
      (late_arrival other.flat s d q +ℤ (element_at other.flat (cover.element_on m)).setup *ℤ s.den) ≤ℤ pos 0
  flop_by m h flop q at to None none =
      let all : IsGreatest (late_arrival other.flat s d) (λ (p : Pair). p.to == cover.element_on m) other.pairs None =
      subst (IsGreatest (late_arrival other.flat s d) (λ (p : Pair). p.to == cover.element_on m) other.pairs) none (greatest_is (late_arrival other.flat s d) (λ (p : Pair). p.to == cover.element_on m) other.pairs) in
      let not_here : (q.to == cover.element_on m) ≡ false = subst (λ (x : Pair). (x.to == cover.element_on m) ≡ false) at.4 (subst (λ (x : Pair). (x.to == cover.element_on m) ≡ false) at.3 (all at.0 at.1 at.2)) in
      absurd (not_both (q.to == cover.element_on m) (eq-eqb q.to (cover.element_on m) to) not_here)
  flop_by m h flop q at to (Some b) top =
      let all : IsGreatest (late_arrival other.flat s d) (λ (p : Pair). p.to == cover.element_on m) other.pairs (Some b) =
      subst (IsGreatest (late_arrival other.flat s d) (λ (p : Pair). p.to == cover.element_on m) other.pairs) top (greatest_is (late_arrival other.flat s d) (λ (p : Pair). p.to == cover.element_on m) other.pairs) in
      let most : (q.to == cover.element_on m) ≡ true → late_arrival other.flat s d q ≤ℤ b =
      subst (λ (x : Pair). (x.to == cover.element_on m) ≡ true → late_arrival other.flat s d x ≤ℤ b) (at.3 ∙ at.4) (all.bound at.0 at.1 at.2) in
      let bound = most (eq-eqb q.to (cover.element_on m) to) in
      let kept = (KeepsSetup-flop other s d (cover.element_on m) b flop top).0 (right.setup (cover.element_on m) (cover.there m h)) in
      omega (arith, ints, bound, kept)

  setup-flop : (m : ℕ) → m < element_count t.flat → (element_at t.flat m).flop ≡ true → (o : Option ℤ) → greatest_of (late_arrivals t s own m) ≡ o → KeepsSetup t s own m
  setup-flop m h flop None none = rw (flop, none) tt
  setup-flop m h flop (Some a) top =
      let all : IsGreatest (late_arrival t.flat s own) (λ (p : Pair). p.to == m) t.pairs (Some a) =
      subst (IsGreatest (late_arrival t.flat s own) (λ (p : Pair). p.to == m) t.pairs) top (greatest_is (late_arrival t.flat s own) (λ (p : Pair). p.to == m) t.pairs) in
      let w = all.attained in
      let ex : HasExtremes t.flat w.1 = All-contains (HasExtremes t.flat) t.pairs w.1 pairs.each (w.0, w.2, w.3) in
      let to : w.1.to ≡ m = eqb-true _ _ w.4.0 in
      let q = pair_covered other.flat t.flat cover other.pairs wider w.1 ex in
      let within = cover.elements m h in
      let kept = flop_by m h (sym within.flop ∙ flop) q.1 (q.0, q.1, q.2, q.3, refl) (q.4.to ∙ ap cover.element_on to) _ refl in
      let low = arrival-mono t s own (carried other t cover wider pairs s right.clock.den d right.exact) w.1 (lowest.2 w.1.from ex.from) in
      let high = arrival-kept other t cover wider pairs s right.clock.den d right.exact w.1 q.1 ex.from ex.to q.4 in
      let setup = times-mono_positive (element_at t.flat m).setup (element_at other.flat (cover.element_on m)).setup s.den within.setup right.clock.den in
      (KeepsSetup-flop t s own m a flop top).1 (omega (arith, ints, kept, low, high, setup, w.4.1))

  right-kept : IsRight t s own
  right-kept = record {
    clock = clock-kept other t cover wider pairs s right.clock;
    bounds = subst (All (KeepsBound s)) (sym cover.bounds) right.bounds;
    exact = lowest.1;
    setup = λ m h.
        ⊎_elim
        (λ flop. setup-flop m h flop _ refl)
        (λ latch. setup-latch m h latch)
        (cases_Bool (element_at t.flat m).flop);
  }

pub right_is_kept_lem : RightIsKept
right_is_kept_lem other t cover wider pairs s d right = (own other t cover wider pairs s d right, right-kept other t cover wider pairs s d right)

pub least_cycle_is_no_greater_lem : LeastCycleIsNoGreater
least_cycle_is_no_greater_lem other t cover wider pairs num den own_num own_den first mine =
    let some = first.attained in
    let s : Schedule = some.0 in
    let right : IsRight other some.0 some.1 = some.2 in
    let kept = right_is_kept_lem other t cover wider pairs some.0 some.1 some.2 in
    let low : ((own_num *ℤ s.den) *ℤ den) ≤ℤ ((s.cycle *ℤ own_den) *ℤ den) = times-mono_positive _ _ den (mine.least s kept.0 kept.1) first.positive in
    let left : (own_num *ℤ s.den) *ℤ den ≡ (own_num *ℤ den) *ℤ s.den = swap-times own_num s.den den in
    let same : (s.cycle *ℤ own_den) *ℤ den ≡ (num *ℤ own_den) *ℤ s.den = swap-times s.cycle own_den den ∙ ap (λ v. v *ℤ own_den) some.3 ∙ swap-times num s.den own_den in
    times-cancel_positive (own_num *ℤ den) (num *ℤ own_den) s.den right.clock.den (rw (left, same) at low)

pub hopeless_only_where_lem : HopelessOnlyWhere
hopeless_only_where_lem other t cover wider pairs hopeless s d right =
    let kept = right_is_kept_lem other t cover wider pairs s d right in
    hopeless s kept.0 kept.1
