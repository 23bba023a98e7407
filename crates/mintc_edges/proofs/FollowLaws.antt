-- A design that is followed by another at both edges, with the same numbers: what is right for that one is right for it.
use Rattle.std.proofs.Common.{◌≡◌, ℕ, ◌<◌, ◌≤◌, ◌==◌, ℤ, pos, ◌≤ℤ◌, ◌+ℤ◌, ◌-ℤ◌, ◌*ℤ◌, Bool, true, false, not, ◌&&◌, List, map, length, Any, All, ⊎_elim, arith, refl, sym, ap, ◌∙◌, subst, Option, Some, None}
use Rattle.std.proofs.lemmas.Int.{ints, clamps, by_lt_z}
use Rattle.std.proofs.lemmas.Bool.{cases_Bool, eqb-true, eq-eqb}
use Rattle.std.proofs.lemmas.List.{get_or_default}
use Rattle.std.proofs.lemmas.List.Elements.{All-contains}
use Rattle.std.proofs.lemmas.List.Folds.{Any-from_list_any, list_any_at}
use Rattle.std.proofs.lemmas.List.FromFn.{length-map-range_with_len, get_or-map-range_with_len}
use Rattle.std.specs.Int.{int_max}
use Rattle.std.specs.List.{filter}
use Rattle.mintc_timing.specs.declared.parts.Element.{Element}
use Rattle.mintc_timing.specs.declared.parts.Pair.{Pair}
use Rattle.mintc_timing.specs.declared.clocking.Schedule.{Schedule}
use Rattle.mintc_timing.specs.Clocking.{width_of, shift_of, is_pair_between, feeds_of, least_width, KeepsBound, KeepsClock, KeepsPhase}
use Rattle.mintc_timing.specs.Departures.{departure, late_arrival, late_arrivals, late_opening, AreExact}
use Rattle.mintc_timing.specs.Design.{Timing, element_at, element_count, phase_of, phase_count, no_element}
use Rattle.mintc_timing.specs.Extremes.{greater_of, greatest_of, IsGreatest}
use Rattle.mintc_timing.specs.Paths.{ArePairs, HasExtremes}
use Rattle.mintc_timing.specs.Right.{IsRight, KeepsSetup}
use Rattle.mintc_timing.specs.Violations.{elements_of}
use Rattle.mintc_timing.proofs.SharedDepartureLaws.{late_departure-latch, late_departure-flop}
use Rattle.mintc_timing.proofs.SharedExtremesLaws.{greatest_is, greater-least, greater-bound, greater-attained}
use Rattle.mintc_timing.proofs.SharedLoops.{arrival-at_most}
use Rattle.mintc_timing.proofs.SharedProducts.{times-mono_positive}
use Rattle.mintc_timing.proofs.SharedSetupLaws.{KeepsSetup-flop, KeepsSetup-latch}
use Rattle.mintc_departure.proofs.SharedLesser.{greater-from}
use Rattle.mintc_edges_cover.proofs.SharedArrivalLaws.{StaysAbove, Exact, arrival-mono, lowered_to_exact}
use Rattle.mintc_edges.specs.declared.edge.Edge.{Edge}
use Rattle.mintc_edges.specs.declared.edge.Edge.TheVariants.{Rise, Fall}
use Rattle.mintc_edges.specs.Edges.{at_edge}

-- Two elements of one kind, on one phase, with the same setup, width and greatest delays.
pub record IsAlike (merged element : Element) : Type 0 where
  pub phase : element.phase ≡ merged.phase
  pub flop : element.flop ≡ merged.flop
  pub setup : element.setup ≡ merged.setup
  pub dq_max : element.dq_max ≡ merged.dq_max
  pub cq_max : element.cq_max ≡ merged.cq_max
  pub width : element.width ≡ merged.width

-- a pair that begins at an edge of the first element of another, and ends at an edge of its second one, no sooner
abbrev pub IsPairAt : Pair → Edge → Edge → Pair → Type 0
IsPairAt p e o q = (q.from ≡ at_edge p.from e) × (q.to ≡ at_edge p.to o) × (p.max ≤ℤ q.max)

-- Each element stands in the other design at both edges, and each pair begins there at both.
pub record IsFollowed (merged t : Timing) : Type 0 where
  pub phases : t.flat.phases ≡ merged.flat.phases
  pub bounds : t.flat.bounds ≡ merged.flat.bounds
  pub there : (l : ℕ) (e : Edge) → l < element_count merged.flat → at_edge l e < element_count t.flat
  pub alike : (l : ℕ) (e : Edge) → l < element_count merged.flat → IsAlike (element_at merged.flat l) (element_at t.flat (at_edge l e))
  pub pairs : (p : Pair) → HasExtremes merged.flat p → (e : Edge) → (o : Edge) × Any (IsPairAt p e o) t.pairs

-- ---- the clock
module _ (merged t : Timing) (followed : IsFollowed merged t) (wider : ArePairs merged.flat merged.pairs) where
  between-same : (i j : ℕ) (p q : Pair) (o : Edge) → HasExtremes merged.flat p → IsPairAt p Rise o q → is_pair_between merged.flat i j p ≡ is_pair_between t.flat i j q
  between-same i j p q o ex is =
      let first : phase_of merged.flat p.from ≡ phase_of t.flat q.from = sym (followed.alike p.from Rise ex.from).phase ∙ ap (phase_of t.flat) (sym is.0) in
      let second : phase_of merged.flat p.to ≡ phase_of t.flat q.to = sym (followed.alike p.to o ex.to).phase ∙ ap (phase_of t.flat) (sym is.1) in
      let flop : (element_at merged.flat p.to).flop ≡ (element_at t.flat q.to).flop = sym (followed.alike p.to o ex.to).flop ∙ ap (λ v. (element_at t.flat v).flop) (sym is.1) in
      ap (λ a. (a == i) && (phase_of merged.flat p.to == j) && not (element_at merged.flat p.to).flop) first
      ∙ ap (λ a. (phase_of t.flat q.from == i) && (a == j) && not (element_at merged.flat p.to).flop) second
      ∙ ap (λ b. (phase_of t.flat q.from == i) && (phase_of t.flat q.to == j) && not b) flop

  pub feeds-too : (i j : ℕ) → feeds_of merged i j ≡ true → feeds_of t i j ≡ true
  feeds-too i j fed =
      let w = Any-from_list_any (is_pair_between merged.flat i j) merged.pairs fed in
      let ex : HasExtremes merged.flat w.1 = All-contains (HasExtremes merged.flat) merged.pairs w.1 wider.each (w.0, w.2, w.3) in
      let found = followed.pairs w.1 ex Rise in
      let q = found.1 in
      let same = between-same i j w.1 q.1 found.0 ex q.4 in
      list_any_at (is_pair_between t.flat i j) t.pairs q.0 q.1 q.2 (ap (is_pair_between t.flat i j) q.3 ∙ sym same ∙ w.4)

  width_at_most : (p l : ℕ) → l < element_count merged.flat → (element_at merged.flat l).phase ≡ p → (element_at merged.flat l).width ≤ℤ least_width t.flat p
  width_at_most p l h at =
      let o = element_at t.flat (at_edge l Rise) in
      let alike = followed.alike l Rise h in
      let test : (o.phase == p) ≡ true = eq-eqb o.phase p (alike.phase ∙ at) in
      let bound = greater-bound (λ (e : Element). e.width) (λ (e : Element). e.phase == p) (pos 0) t.flat.elements (greatest_of (map (λ (e : Element). e.width) (filter (λ (e : Element). e.phase == p) t.flat.elements)))
      (greatest_is (λ (e : Element). e.width) (λ (e : Element). e.phase == p) t.flat.elements) (at_edge l Rise) no_element (followed.there l Rise h) test in
      omega (arith, ints, bound, alike.width)

  width-too : (p : ℕ) → least_width merged.flat p ≤ℤ least_width t.flat p
  width-too p =
      ⊎_elim
      (λ none. subst (λ v. v ≤ℤ least_width t.flat p) (sym none) (greater-least (λ (e : Element). e.width) (λ (e : Element). e.phase == p) (pos 0) (greatest_of (map (λ (e : Element). e.width) (filter (λ (e : Element). e.phase == p) t.flat.elements)))))
      (λ w.
      let is : element_at merged.flat w.0 ≡ w.1 = get_or_default merged.flat.elements w.0 no_element w.1 w.2 ∙ w.3 in
      let at : (element_at merged.flat w.0).phase ≡ p = ap (λ (e : Element). e.phase) is ∙ eqb-true _ _ w.4.0 in
      let wide : (element_at merged.flat w.0).width ≡ least_width merged.flat p = ap (λ (e : Element). e.width) is ∙ w.4.1 in
      subst (λ v. v ≤ℤ least_width t.flat p) wide (width_at_most p w.0 w.2 at))
      (greater-attained (λ (e : Element). e.width) (λ (e : Element). e.phase == p) (pos 0) merged.flat.elements (greatest_of (map (λ (e : Element). e.width) (filter (λ (e : Element). e.phase == p) merged.flat.elements)))
      (greatest_is (λ (e : Element). e.width) (λ (e : Element). e.phase == p) merged.flat.elements))

  count-too : phase_count merged.flat ≡ phase_count t.flat
  count-too = ap length (sym followed.phases)

  module _ (s : Schedule) (clock : KeepsClock t s) where
    phase-too : (p : ℕ) → 1 ≤ p → p ≤ phase_count t.flat → KeepsPhase merged s p
    phase-too p low high =
        let each = clock.each p low high in
        let wide = times-mono_positive (least_width merged.flat p) (least_width t.flat p) s.den (width-too p) clock.den in
        record {
          start = each.start;
          span = each.span;
          order = λ next. each.order (rw count-too at next);
          wide = omega (arith, ints, wide, each.wide);
          apart = λ j low' high' fed. each.apart j low' (rw count-too at high') (feeds-too p j fed);
        }

    pub clock-too : KeepsClock merged s
    clock-too = record {
      den = clock.den;
      starts = clock.starts ∙ sym count-too;
      widths = clock.widths ∙ sym count-too;
      each = λ p low high. phase-too p low (rw count-too at high);
    }

not_both : (b : Bool) → b ≡ true → b ≡ false → ⊥
not_both b h k = cc

-- what a flop's setup asks of each pair into it
flop-asks : (t : Timing) (s : Schedule) (d : List ℤ) (m : ℕ) → (element_at t.flat m).flop ≡ true → KeepsSetup t s d m → (q : Pair) → Any (λ x. x ≡ q) t.pairs → q.to ≡ m →
    (o : Option ℤ) → greatest_of (late_arrivals t s d m) ≡ o → (late_arrival t.flat s d q +ℤ (element_at t.flat m).setup *ℤ s.den) ≤ℤ pos 0
flop-asks t s d m flop keeps q at to None none =
    let all : IsGreatest (late_arrival t.flat s d) (λ (p : Pair). p.to == m) t.pairs None =
    subst (IsGreatest (late_arrival t.flat s d) (λ (p : Pair). p.to == m) t.pairs) none (greatest_is (late_arrival t.flat s d) (λ (p : Pair). p.to == m) t.pairs) in
    let not_here : (q.to == m) ≡ false = subst (λ (x : Pair). (x.to == m) ≡ false) at.4 (subst (λ (x : Pair). (x.to == m) ≡ false) at.3 (all at.0 at.1 at.2)) in
    absurd (not_both (q.to == m) (eq-eqb q.to m to) not_here)
flop-asks t s d m flop keeps q at to (Some b) top =
    let all : IsGreatest (late_arrival t.flat s d) (λ (p : Pair). p.to == m) t.pairs (Some b) =
    subst (IsGreatest (late_arrival t.flat s d) (λ (p : Pair). p.to == m) t.pairs) top (greatest_is (late_arrival t.flat s d) (λ (p : Pair). p.to == m) t.pairs) in
    let most : (q.to == m) ≡ true → late_arrival t.flat s d q ≤ℤ b =
    subst (λ (x : Pair). (x.to == m) ≡ true → late_arrival t.flat s d x ≤ℤ b) (at.3 ∙ at.4) (all.bound at.0 at.1 at.2) in
    let bound = most (eq-eqb q.to m to) in
    let kept = (KeepsSetup-flop t s d m b flop top).0 keeps in
    omega (arith, ints, bound, kept)

-- ---- departures: the later one of the two edges
module _ (merged t : Timing) (followed : IsFollowed merged t) (wider : ArePairs merged.flat merged.pairs) (pairs : ArePairs t.flat t.pairs)
    (s : Schedule) (some : pos 1 ≤ℤ s.den) (d : List ℤ) (exact : AreExact t s d) where
  abbrev later_at : ℕ → ℤ
  later_at l = int_max (departure d (at_edge l Rise)) (departure d (at_edge l Fall))

  abbrev later : List ℤ
  later = map later_at (elements_of merged.flat)

  later-count : length later ≡ element_count merged.flat
  later-count = length-map-range_with_len later_at 0 (element_count merged.flat)

  later-is : (l : ℕ) → l < element_count merged.flat → departure later l ≡ later_at l
  later-is l h = get_or-map-range_with_len later_at 0 (element_count merged.flat) l l (pos 0) h (omega arith)

  at-most : (l : ℕ) (e : Edge) → l < element_count merged.flat → departure d (at_edge l e) ≤ℤ departure later l
  at-most l Rise h = omega (arith, ints, clamps, later-is l h)
  at-most l Fall h = omega (arith, ints, clamps, later-is l h)

  later-attained : (l : ℕ) → l < element_count merged.flat → (e : Edge) × (departure later l ≡ departure d (at_edge l e))
  later-attained l h = by_lt_z (departure d (at_edge l Rise)) (departure d (at_edge l Fall))
      (λ less. (Fall, omega (arith, ints, clamps, later-is l h, less)))
      (λ more. (Rise, omega (arith, ints, clamps, later-is l h, more)))

  arrival-followed : (p q : Pair) (e o : Edge) → HasExtremes merged.flat p → departure later p.from ≡ departure d (at_edge p.from e) → IsPairAt p e o q →
      late_arrival merged.flat s later p ≤ℤ late_arrival t.flat s d q
  arrival-followed p q e o ex leaves is =
      let from = followed.alike p.from e ex.from in
      let to = followed.alike p.to o ex.to in
      let out : departure d q.from ≡ departure later p.from = ap (departure d) is.0 ∙ sym leaves in
      let delay : (element_at t.flat q.from).dq_max ≡ (element_at merged.flat p.from).dq_max = ap (λ v. (element_at t.flat v).dq_max) is.0 ∙ from.dq_max in
      let first : phase_of t.flat q.from ≡ phase_of merged.flat p.from = ap (phase_of t.flat) is.0 ∙ from.phase in
      let second : phase_of t.flat q.to ≡ phase_of merged.flat p.to = ap (phase_of t.flat) is.1 ∙ to.phase in
      let shift : shift_of s (phase_of t.flat q.from) (phase_of t.flat q.to) ≡ shift_of s (phase_of merged.flat p.from) (phase_of merged.flat p.to) =
      ap (λ i. shift_of s i (phase_of t.flat q.to)) first ∙ ap (shift_of s (phase_of merged.flat p.from)) second in
      let sum : ((element_at merged.flat p.from).dq_max +ℤ p.max) ≤ℤ ((element_at t.flat q.from).dq_max +ℤ q.max) = omega (arith, ints, delay, is.2) in
      let more = times-mono_positive _ _ s.den sum some in
      omega (arith, ints, out, shift, more)

  -- data of each pair comes, at some edge, no sooner in the other design
  abbrev Comes : Pair → Type 0
  Comes p = (o : Edge) × Any (λ q. (q.to ≡ at_edge p.to o) × (late_arrival merged.flat s later p ≤ℤ late_arrival t.flat s d q)) t.pairs

  comes : (p : Pair) → HasExtremes merged.flat p → Comes p
  comes p ex =
      let e = later-attained p.from ex.from in
      let found = followed.pairs p ex e.0 in
      let q = found.1 in
      (found.0, (q.0, q.1, q.2, q.3, (q.4.1, arrival-followed p q.1 e.0 found.0 ex e.1 q.4)))

  -- so into a latch it comes no later than that departs
  latch-comes : (p : Pair) → HasExtremes merged.flat p → (element_at merged.flat p.to).flop ≡ false → late_arrival merged.flat s later p ≤ℤ departure later p.to
  latch-comes p ex latch =
      let w = comes p ex in
      let q = w.1 in
      let flop : (element_at t.flat q.1.to).flop ≡ false = ap (λ v. (element_at t.flat v).flop) q.4.0 ∙ (followed.alike p.to w.0 ex.to).flop ∙ latch in
      let there : late_arrival t.flat s d q.1 ≤ℤ departure d q.1.to =
      subst (λ (x : Pair). (element_at t.flat x.to).flop ≡ false → late_arrival t.flat s d x ≤ℤ departure d x.to) q.3
      (arrival-at_most t s d exact pairs.each q.0 q.1 q.2) flop in
      let to : departure d q.1.to ≡ departure d (at_edge p.to w.0) = ap (departure d) q.4.0 in
      omega (arith, ints, q.4.1, there, to, at-most p.to w.0 ex.to)

  opening-same : (l : ℕ) (e : Edge) → l < element_count merged.flat → late_opening t.flat s (at_edge l e) ≡ late_opening merged.flat s l
  opening-same l e h =
      let alike = followed.alike l e h in
      ap (λ v. (v -ℤ (element_at t.flat (at_edge l e)).dq_max) *ℤ s.den) alike.cq_max ∙ ap (λ v. ((element_at merged.flat l).cq_max -ℤ v) *ℤ s.den) alike.dq_max

  opens : (l : ℕ) → l < element_count merged.flat → (element_at merged.flat l).flop ≡ false → late_opening merged.flat s l ≤ℤ departure later l
  opens l h latch =
      let m = at_edge l Rise in
      let is = exact.each m (followed.there l Rise h) ∙ late_departure-latch t s d m ((followed.alike l Rise h).flop ∙ latch) in
      let low = greater-from (late_opening t.flat s m) (greatest_of (late_arrivals t s d m)) in
      omega (arith, ints, is, low, opening-same l Rise h, at-most l Rise h)

  stays_latch : (l : ℕ) → l < element_count merged.flat → (element_at merged.flat l).flop ≡ false →
      greater_of (late_opening merged.flat s l) (greatest_of (late_arrivals merged s later l)) ≤ℤ departure later l
  stays_latch l h latch =
      ⊎_elim
      (λ none. omega (arith, ints, none, opens l h latch))
      (λ w.
      let ex : HasExtremes merged.flat w.1 = All-contains (HasExtremes merged.flat) merged.pairs w.1 wider.each (w.0, w.2, w.3) in
      let to : w.1.to ≡ l = eqb-true _ _ w.4.0 in
      let before = latch-comes w.1 ex (ap (λ v. (element_at merged.flat v).flop) to ∙ latch) in
      let there : departure later w.1.to ≡ departure later l = ap (departure later) to in
      omega (arith, ints, w.4.1, before, there))
      (greater-attained (late_arrival merged.flat s later) (λ (p : Pair). p.to == l) (late_opening merged.flat s l) merged.pairs (greatest_of (late_arrivals merged s later l))
      (greatest_is (late_arrival merged.flat s later) (λ (p : Pair). p.to == l) merged.pairs))

  flop_at : (l : ℕ) (e : Edge) → l < element_count merged.flat → (element_at merged.flat l).flop ≡ true → departure d (at_edge l e) ≡ pos 0
  flop_at l e h flop = exact.each (at_edge l e) (followed.there l e h) ∙ late_departure-flop t s d (at_edge l e) ((followed.alike l e h).flop ∙ flop)

  stays_flop : (l : ℕ) → l < element_count merged.flat → (element_at merged.flat l).flop ≡ true → pos 0 ≤ℤ departure later l
  stays_flop l h flop = omega (arith, ints, flop_at l Rise h flop, at-most l Rise h)

  pub later-stays : StaysAbove merged s later
  later-stays = record {
    count = later-count;
    each = λ l h.
        ⊎_elim
        (λ flop. omega (arith, ints, late_departure-flop merged s later l flop, stays_flop l h flop))
        (λ latch. subst (λ v. v ≤ℤ departure later l) (sym (late_departure-latch merged s later l latch)) (stays_latch l h latch))
        (cases_Bool (element_at merged.flat l).flop);
  }

-- ---- setups
module _ (merged t : Timing) (followed : IsFollowed merged t) (wider : ArePairs merged.flat merged.pairs) (pairs : ArePairs t.flat t.pairs)
    (s : Schedule) (d : List ℤ) (right : IsRight t s d) where
  abbrev top : List ℤ
  top = later merged t followed wider pairs s right.clock.den d right.exact

  pub lowest : Exact merged s top
  lowest = lowered_to_exact merged s top (later-stays merged t followed wider pairs s right.clock.den d right.exact)

  abbrev own : List ℤ
  own = lowest.0

  setup-latch : (l : ℕ) → l < element_count merged.flat → (element_at merged.flat l).flop ≡ false → KeepsSetup merged s own l
  setup-latch l h latch =
      let e = later-attained merged t followed wider pairs s right.clock.den d right.exact l h in
      let alike = followed.alike l e.0 h in
      let theirs = (KeepsSetup-latch t s d (at_edge l e.0) (alike.flop ∙ latch)).0 (right.setup (at_edge l e.0) (followed.there l e.0 h)) in
      let width : width_of s (phase_of t.flat (at_edge l e.0)) ≡ width_of s (phase_of merged.flat l) = ap (width_of s) alike.phase in
      let setup : (element_at t.flat (at_edge l e.0)).setup *ℤ s.den ≡ (element_at merged.flat l).setup *ℤ s.den = ap (λ v. v *ℤ s.den) alike.setup in
      (KeepsSetup-latch merged s own l latch).1 (omega (arith, ints, clamps, theirs, width, setup, lowest.2 l h, e.1))

  setup-flop : (l : ℕ) → l < element_count merged.flat → (element_at merged.flat l).flop ≡ true → (o : Option ℤ) → greatest_of (late_arrivals merged s own l) ≡ o → KeepsSetup merged s own l
  setup-flop l h flop None none = rw (flop, none) tt
  setup-flop l h flop (Some a) is =
      let all : IsGreatest (late_arrival merged.flat s own) (λ (p : Pair). p.to == l) merged.pairs (Some a) =
      subst (IsGreatest (late_arrival merged.flat s own) (λ (p : Pair). p.to == l) merged.pairs) is (greatest_is (late_arrival merged.flat s own) (λ (p : Pair). p.to == l) merged.pairs) in
      let w = all.attained in
      let ex : HasExtremes merged.flat w.1 = All-contains (HasExtremes merged.flat) merged.pairs w.1 wider.each (w.0, w.2, w.3) in
      let to : w.1.to ≡ l = eqb-true _ _ w.4.0 in
      let c = comes merged t followed wider pairs s right.clock.den d right.exact w.1 ex in
      let q = c.1 in
      let m = at_edge l c.0 in
      let alike = followed.alike l c.0 h in
      let into : q.1.to ≡ m = q.4.0 ∙ ap (λ v. at_edge v c.0) to in
      let kept = flop-asks t s d m (alike.flop ∙ flop) (right.setup m (followed.there l c.0 h)) q.1 (q.0, q.1, q.2, q.3, refl) into _ refl in
      let low = arrival-mono merged s own top w.1 (lowest.2 w.1.from ex.from) in
      let setup : (element_at t.flat m).setup *ℤ s.den ≡ (element_at merged.flat l).setup *ℤ s.den = ap (λ v. v *ℤ s.den) alike.setup in
      (KeepsSetup-flop merged s own l a flop is).1 (omega (arith, ints, kept, low, q.4.1, setup, w.4.1))

  pub followed-right : IsRight merged s own
  followed-right = record {
    clock = clock-too merged t followed wider s right.clock;
    bounds = subst (All (KeepsBound s)) followed.bounds right.bounds;
    exact = lowest.1;
    setup = λ l h.
        ⊎_elim
        (λ flop. setup-flop l h flop _ refl)
        (λ latch. setup-latch l h latch)
        (cases_Bool (element_at merged.flat l).flop);
  }

-- A schedule that is right for the design that follows is right for the one that it follows.
pub right_is_followed : (merged t : Timing) → IsFollowed merged t → ArePairs merged.flat merged.pairs → ArePairs t.flat t.pairs → (s : Schedule) (d : List ℤ) → IsRight t s d → (own : List ℤ) × IsRight merged s own
right_is_followed merged t followed wider pairs s d right = (own merged t followed wider pairs s d right, followed-right merged t followed wider pairs s d right)
