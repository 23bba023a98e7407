-- The labels of the bits that are held, along the arcs.
use Rattle.std.proofs.Common.{◌≡◌, ◌≢◌, ℕ, ◌<◌, ◌≤◌, ◌+◌, ℤ, ◌*ℤ◌, Bool, true, false, List, [], ◌∷◌, zero, suc, length, get_or, arith, refl, ap, ◌∙◌, sym, ◌⊎◌, inl, inr, ⊎_elim, None, Option, subst, ◌*◌}
use Rattle.std.specs.Int.{int_max}
use Rattle.std.proofs.lemmas.Bool.{cases_eq}
use Rattle.mintc_timing.specs.declared.parts.TimingArc.{TimingArc}
use Rattle.mintc_timing.specs.Among.{AreAmong}
use Rattle.mintc_timing.specs.Design.{Design}
use Rattle.mintc_timing.specs.Limits.{IsDesign}
use Rattle.mintc_timing.specs.Order.{IsOrder}
use Rattle.mintc_timing.specs.Paths.{Leads, arc_at, input_of, output_of}
use Rattle.mintc_timing.proofs.SharedOrdered.{all_among, none_among}
use Rattle.mintc_lanes.specs.Lanes.{joined, lane_at, AreJoined}
use Rattle.mintc_checker.specs.declared.course.Course.{Course}
use Rattle.mintc_checker.specs.declared.course.Step.{Step}
use Rattle.mintc_checker.specs.declared.labels.Labels.{Labels}
use Rattle.mintc_checker.specs.Trails.{IsGreatestTime, LeadsFrom, time_along}
use Rattle.mintc_checker.specs.Course.{moved, place_at, placed, step_at, AreOutputPlaces, IsBegun, IsCourse, IsEntered, IsHeld, IsMarked, IsOutput, IsOver}
use Rattle.mintc_checker.specs.Labels.{labels_at, label_at, AreLabels, AreRows, IsAlong, IsRowOf, IsStart}
use Rattle.mintc_checker.specs.Rows.{AreRowsAlong}
use Rattle.mintc_checker.proofs.Carrying.{label-joined, label-other}
use Rattle.mintc_checker.proofs.Greatest.{greatest_of_none, greatest_same}
use Rattle.mintc_checker.proofs.Placed.{length-placed, placed_at}
use Rattle.mintc_checker.proofs.Placing.{length-moved, moved_at, moved_enters, moved_leaves, moved_ordered}
use Rattle.mintc_checker.proofs.Sharing.{more_over, narrow, never_over, widen}

entered_or_not : (arcs : List Step) (bit k : ℕ) → IsEntered arcs k bit ⊎ (IsEntered arcs k bit → ⊥)
entered_or_not arcs bit zero = inr (λ e. omega (arith, e.1))
entered_or_not arcs bit (suc k) = ⊎_elim
    (λ (e : (step_at arcs k).to ≡ bit). inl (k, omega arith, e))
    (λ ne. ⊎_elim (λ old. inl (old.0, omega (arith, old.1), old.2))
    (λ none. inr (λ e. ⊎_elim (λ (same : e.0 ≡ k). ne (ap (λ i. (step_at arcs i).to) (sym same) ∙ e.2)) (λ other. none (e.0, omega (arith, e.1), e.2)) (cases_eq e.0 k)))
    (entered_or_not arcs bit k))
    (cases_eq (step_at arcs k).to bit)

is_or_not : (b : Bool) → (b ≡ true) ⊎ (b ≡ true → ⊥)
is_or_not true = inl refl
is_or_not false = inr (λ e. cc e)

module _ (design : Design) (limits : IsDesign design) (den : ℤ) (d : List ℤ) (order : List ℕ) (is_order : IsOrder design.arcs order) (course : Course) (h : IsCourse design order course) where
  abbrev arcs : List Step
  arcs = moved design.arcs order

  abbrev lasts : List Bool
  lasts = course.lasts.items

  abbrev bits : List ℕ
  bits = course.places.of_bits.items

  abbrev IsFirst : ℕ → Type 0
  IsFirst = IsOutput (length design.elements)

  count : length arcs ≡ length order
  count = length-moved design.arcs order

  ordered : (i j : ℕ) → i < length order → j < length order → (step_at arcs i).to ≡ (step_at arcs j).from → i < j
  ordered i j a b = (moved_ordered design limits order is_order (2 * length design.elements + length design.inner) refl).ordered i j (omega (arith, count)) (omega (arith, count))

  entered_of : (k from m : ℕ) (path : List ℕ) (to : ℕ) → Leads design.arcs from (m ∷ path) to → AreAmong order k (m ∷ path) → IsEntered arcs k to
  entered_of k from m [] to l a = (a.0.0, a.0.1, ap (λ (s : Step). s.to) (moved_at design.arcs order a.0.0 a.0.2) ∙ ap (λ x. (arc_at design.arcs x).to) a.0.3 ∙ l.2)
  entered_of k from m (q ∷ path) to l a = entered_of k (arc_at design.arcs m).to q path to l.2 a.1

  begun_of_trail : (k p bit j : ℕ) (path : List ℕ) → LeadsFrom design p bit j path → IsAlong order k j path → IsBegun IsFirst arcs k bit
  begun_of_trail k p bit j [] t a = inl (j, t.trail.element, sym t.trail.leads)
  begun_of_trail k p bit j (m ∷ path) t a = inr (entered_of k (output_of j) m path bit t.trail.leads a)

  has_place : (k bit : ℕ) → k ≤ length order → IsBegun IsFirst arcs k bit → place_at bits bit ≢ 0
  has_place k bit most b = h.places.placed bit (⊎_elim (λ first. inl first) (λ e. inr (e.0, omega (arith, e.1), e.2)) b)

  -- where data hasn't come and no labels are
  none_right : (k bit : ℕ) (row : Labels) → (IsBegun IsFirst arcs k bit → ⊥) → ((lane : ℕ) → lane < 8 → lane_at row.lanes lane ≡ None) → IsRowOf design den d (IsAlong order k) bit row.lanes
  none_right k bit row unbegun none lane eight =
      subst (λ x. IsGreatestTime (λ j path. LeadsFrom design (lane + 1) bit j path × IsAlong order k j path) (time_along design den d) x) (sym (none lane eight))
      (greatest_of_none (λ j path. LeadsFrom design (lane + 1) bit j path × IsAlong order k j path) (time_along design den d) (λ j path t. unbegun (begun_of_trail k (lane + 1) bit j path t.0 t.1)))

  inside_row : (rows : List Labels) → length rows ≡ course.places.given + 1 → (bit : ℕ) → place_at bits bit < length rows
  inside_row rows rows_in bit = omega (arith, h.places.below bit)

  -- a bit that has no place has no labels
  unplaced_right : (k bit : ℕ) (rows : List Labels) → k ≤ length order → length rows ≡ course.places.given + 1 → AreRowsAlong design den d order course k rows → place_at bits bit ≡ 0 →
      IsRowOf design den d (IsAlong order k) bit (labels_at rows (place_at bits bit)).lanes
  unplaced_right k bit rows most rows_in r z =
      none_right k bit (labels_at rows (place_at bits bit)) (λ b. has_place k bit most b z)
      (λ lane eight. r.others (place_at bits bit) lane (inside_row rows rows_in bit) eight (λ other held same. has_place k other most held.0 (same ∙ z)))

  -- step k
  module _ (k : ℕ) (low : k < length order) (rows : List Labels) (rows_in : length rows ≡ course.places.given + 1) (r : AreRowsAlong design den d order course k rows) where
    abbrev from : ℕ
    from = (step_at arcs k).from

    abbrev to : ℕ
    to = (step_at arcs k).to

    low_arcs : k < length arcs
    low_arcs = omega (arith, count)

    entered_now : IsBegun IsFirst arcs (k + 1) to
    entered_now = inr (k, omega arith, refl)

    begun_from : place_at bits from ≢ 0 → IsBegun IsFirst arcs k from
    begun_from some = ⊎_elim (λ first. inl first) (λ e. inr (e.0, ordered e.0 k e.1 low e.2, e.2)) (h.places.begun from some)

    from_not_over : IsOver arcs lasts k from → ⊥
    from_not_over = never_over IsFirst arcs lasts h.lasts k low_arcs

    to_not_over : IsOver arcs lasts (k + 1) to → ⊥
    to_not_over o = let after = ordered k o.0 low (omega (arith, o.1)) (sym o.3) in omega (arith, after, o.1)

    -- a bit that is held doesn't have the place of the bit that step k enters
    apart_to : (bit : ℕ) → bit ≢ to → IsBegun IsFirst arcs (k + 1) bit → (IsOver arcs lasts k bit → ⊥) → place_at bits bit ≢ place_at bits to
    apart_to bit ne b alive same = ⊎_elim
        (λ p. alive (p.last, p.before k low_arcs refl, p.marked, p.leaves))
        (λ p. ⊎_elim (λ first. p.entered first)
        (λ e.
        let before = p.before e.0 (omega (arith, e.1, low_arcs)) e.2 in
        let after = ordered k p.last low (omega (arith, p.inside, count)) (sym p.leaves) in
        omega (arith, before, after, e.1)) b)
        (h.places.shared bit to ne (has_place (k + 1) bit (omega arith) b) same)

    -- nor that of the bit that step k leaves, where it is the last
    apart_from : IsMarked lasts k → (bit : ℕ) → IsBegun IsFirst arcs (k + 1) bit → (IsOver arcs lasts (k + 1) bit → ⊥) → place_at bits bit ≢ place_at bits from
    apart_from marked bit b alive same =
        let some : place_at bits bit ≢ 0 = has_place (k + 1) bit (omega arith) b in
        let ne : bit ≢ from = λ e. alive (k, omega arith, marked, sym e) in
        ⊎_elim
        (λ p. ⊎_elim (λ first. p.entered first)
        (λ e.
        let before = p.before e.0 (omega (arith, e.1, count)) e.2 in
        let sooner = ordered e.0 k e.1 low e.2 in
        alive (p.last, omega (arith, before, sooner), p.marked, p.leaves)) (h.places.begun from (λ z. some (same ∙ z))))
        (λ p. ⊎_elim (λ first. p.entered first)
        (λ e. let before = p.before e.0 (omega (arith, e.1, low_arcs)) e.2 in from_not_over (p.last, omega (arith, before, e.1), p.marked, p.leaves)) b)
        (h.places.shared bit from ne some same)

    pub right_from : IsRowOf design den d (IsAlong order k) from (labels_at rows (place_at bits from)).lanes
    right_from = ⊎_elim (λ (z : place_at bits from ≡ 0). unplaced_right k from rows (omega arith) rows_in r z) (λ some. r.held from (begun_from some, from_not_over)) (cases_eq (place_at bits from) 0)

    unbegun : (IsEntered arcs k to → ⊥) → IsBegun IsFirst arcs k to → ⊥
    unbegun none b = ⊎_elim (λ first. moved_enters design limits order is_order k low_arcs first) (λ e. none e) b

    pub right_to : IsRowOf design den d (IsAlong order k) to (labels_at rows (place_at bits to)).lanes
    right_to = ⊎_elim
        (λ e. r.held to (inr e, λ o. to_not_over (more_over IsFirst arcs lasts h.lasts k low_arcs to o)))
        (λ none. none_right k to (labels_at rows (place_at bits to)) (unbegun none)
        (λ lane eight. r.others (place_at bits to) lane (inside_row rows rows_in to) eight
        (λ bit held same.
        let ne : bit ≢ to = λ e. unbegun none (subst (λ b. IsBegun IsFirst arcs k b) e held.0) in
        apart_to bit ne (widen IsFirst arcs lasts h.lasts k low_arcs bit held.0) held.1 same)))
        (entered_or_not arcs to k)

    pub from_apart : place_at bits from ≢ place_at bits to
    from_apart same =
        let some : place_at bits from ≢ 0 = λ z. has_place (k + 1) to (omega arith) entered_now (sym same ∙ z) in
        let ne : from ≢ to = λ e. let after = ordered k k low low (sym e) in omega (arith, after) in
        apart_to from ne (widen IsFirst arcs lasts h.lasts k low_arcs from (begun_from some)) from_not_over same

    abbrev arc : TimingArc
    arc = arc_at design.arcs (get_or order k 0)

    from_is : from ≡ arc.from
    from_is = ap (λ (s : Step). s.from) (moved_at design.arcs order k low)

    to_is : to ≡ arc.to
    to_is = ap (λ (s : Step). s.to) (moved_at design.arcs order k low)

    -- the labels once step k is carried, and then those at its beginning dropped where it is the last
    module _ (mid new : List Labels) (w : ℤ) (same_count : length new ≡ length rows) (weight : w ≡ arc.max *ℤ den)
        (others : (p : ℕ) → p ≢ place_at bits to → labels_at mid p ≡ labels_at rows p)
        (joins : AreJoined int_max (labels_at rows (place_at bits to)).lanes (labels_at rows (place_at bits from)).lanes w (labels_at mid (place_at bits to)).lanes)
        (kept : (p : ℕ) → (IsMarked lasts k → p ≢ place_at bits from) → labels_at new p ≡ labels_at mid p)
        (dropped : IsMarked lasts k → (lane : ℕ) → lane < 8 → label_at new (place_at bits from) lane ≡ None) where
      unchanged : (p : ℕ) → p ≢ place_at bits to → (IsMarked lasts k → p ≢ place_at bits from) → labels_at new p ≡ labels_at rows p
      unchanged p ne free = kept p free ∙ others p ne

      label_is : (lane : ℕ) → lane < 8 → label_at new (place_at bits to) lane
          ≡ joined int_max (label_at rows (place_at bits to) lane) (label_at rows (place_at bits from) lane) (arc.max *ℤ den)
      label_is lane eight =
          ap (λ (l : Labels). lane_at l.lanes lane) (kept (place_at bits to) (λ marked e. from_apart (sym e))) ∙ joins lane eight
          ∙ ap (λ v. joined int_max (label_at rows (place_at bits to) lane) (label_at rows (place_at bits from) lane) v) weight

      abbrev IsBest : ℕ → ℕ → ℕ → Option ℤ → Type 0
      IsBest i lane bit x = IsGreatestTime (λ j path. LeadsFrom design (lane + 1) bit j path × IsAlong order i j path) (time_along design den d) x

      row_to : IsRowOf design den d (IsAlong order (k + 1)) to (labels_at new (place_at bits to)).lanes
      row_to lane eight =
          let own = subst (λ b. IsBest k lane b (label_at rows (place_at bits to) lane)) to_is (right_to lane eight) in
          let other = subst (λ b. IsBest k lane b (label_at rows (place_at bits from) lane)) from_is (right_from lane eight) in
          let both = label-joined design den d order is_order k (get_or order k 0) low refl (lane + 1) (label_at rows (place_at bits to) lane) (label_at rows (place_at bits from) lane) own other in
          subst (λ x. IsBest (k + 1) lane to x) (sym (label_is lane eight)) (subst (λ b. IsBest (k + 1) lane b (joined int_max (label_at rows (place_at bits to) lane) (label_at rows (place_at bits from) lane) (arc.max *ℤ den))) (sym to_is) both)

      row_other : (bit : ℕ) → bit ≢ to → IsHeld (length design.elements) arcs lasts (k + 1) bit → IsRowOf design den d (IsAlong order (k + 1)) bit (labels_at new (place_at bits bit)).lanes
      row_other bit ne held =
          let alive : IsOver arcs lasts k bit → ⊥ = λ o. held.1 (more_over IsFirst arcs lasts h.lasts k low_arcs bit o) in
          let b = narrow IsFirst arcs lasts h.lasts k low_arcs bit ne held.0 in
          let same = unchanged (place_at bits bit) (apart_to bit ne held.0 alive) (λ marked. apart_from marked bit held.0 held.1) in
          subst (λ (l : Labels). IsRowOf design den d (IsAlong order (k + 1)) bit l.lanes) (sym same)
          (λ lane eight. label-other design den d order is_order k (get_or order k 0) low refl (lane + 1) bit (label_at rows (place_at bits bit) lane) (λ e. ne (e ∙ sym to_is)) (r.held bit (b, alive) lane eight))

      dropped_or_not : (p : ℕ) → (IsMarked lasts k × (p ≡ place_at bits from)) ⊎ (IsMarked lasts k → p ≢ place_at bits from)
      dropped_or_not p = ⊎_elim
          (λ marked. ⊎_elim (λ (e : p ≡ place_at bits from). inl (marked, e)) (λ ne. inr (λ m. ne)) (cases_eq p (place_at bits from)))
          (λ un. inr (λ m. absurd (un m))) (is_or_not (get_or lasts k false))

      -- a bit that is held before is held after, if its place isn't dropped
      still_held : (p bit : ℕ) → (IsMarked lasts k → p ≢ place_at bits from) → place_at bits bit ≡ p → IsHeld (length design.elements) arcs lasts k bit → IsHeld (length design.elements) arcs lasts (k + 1) bit
      still_held p bit free same held = (
        widen IsFirst arcs lasts h.lasts k low_arcs bit held.0,
        λ o. ⊎_elim
            (λ (e : o.0 ≡ k). free (subst (λ i. IsMarked lasts i) e o.2) (sym same ∙ ap (place_at bits) (sym o.3 ∙ ap (λ i. (step_at arcs i).from) e)))
            (λ other. held.1 (o.0, omega (arith, o.1), o.2, o.3)) (cases_eq o.0 k),
      )

      pub AreRows-carried : AreRowsAlong design den d order course (k + 1) new
      AreRows-carried = record {
        held = λ bit held. ⊎_elim
            (λ (e : bit ≡ to). subst (λ b. IsRowOf design den d (IsAlong order (k + 1)) b (labels_at new (place_at bits b)).lanes) (sym e) row_to)
            (λ ne. row_other bit ne held) (cases_eq bit to);
        others = λ p lane below eight none.
            let away : p ≢ place_at bits to = λ e. none to (entered_now, to_not_over) (sym e) in
            ⊎_elim (λ at. ap (λ q. label_at new q lane) at.1 ∙ dropped at.0 lane eight)
            (λ free. ap (λ (l : Labels). lane_at l.lanes lane) (unchanged p away free) ∙ r.others p lane (omega (arith, same_count)) eight (λ bit held same. none bit (still_held p bit free same held) same))
            (dropped_or_not p);
      }

  -- before the first step
  pub AreRows-first : (rows : List Labels) → AreRows design den d IsFirst IsStart bits rows → AreRowsAlong design den d order course 0 rows
  AreRows-first rows x = record {
    held = λ bit held lane eight. ⊎_elim
        (λ first. greatest_same (λ j path. LeadsFrom design (lane + 1) bit j path × IsStart j path) (λ j path. LeadsFrom design (lane + 1) bit j path × IsAlong order 0 j path) (time_along design den d)
        (λ j path g. (g.0, subst (λ xs. AreAmong order 0 xs) (sym g.1) tt)) (λ j path g. (g.0, none_among order path g.1)) (label_at rows (place_at bits bit) lane) (x.held bit first lane eight))
        (λ e. absurd (omega (arith, e.1))) held.0;
    others = λ p lane below eight none. x.others p lane below eight (λ bit first. none bit (inl first, λ o. omega (arith, o.1)));
  }

  -- after the last step
  right_input : (l : ℕ) (rows : List Labels) → l < length design.elements → length rows ≡ course.places.given + 1 → AreRowsAlong design den d order course (length order) rows →
      IsRowOf design den d (IsAlong order (length order)) (input_of l) (labels_at rows (place_at bits (input_of l))).lanes
  right_input l rows inside rows_in r = ⊎_elim
      (λ (z : place_at bits (input_of l) ≡ 0). unplaced_right (length order) (input_of l) rows (omega arith) rows_in r z)
      (λ some. r.held (input_of l) (h.places.begun (input_of l) some, λ o. moved_leaves design limits order is_order o.0 l (omega (arith, o.1, count)) inside o.3))
      (cases_eq (place_at bits (input_of l)) 0)

  pub AreLabels-last : (rows : List Labels) → length rows ≡ course.places.given + 1 → AreRowsAlong design den d order course (length order) rows → AreLabels design den d (placed bits rows)
  AreLabels-last rows rows_in r = record {
    count = length-placed bits rows ∙ h.count;
    each = λ l lane inside eight.
        let low : input_of l < length bits = omega (arith, h.count) in
        subst (λ (x : Labels). IsGreatestTime (LeadsFrom design (lane + 1) (input_of l)) (time_along design den d) (lane_at x.lanes lane)) (sym (placed_at bits rows (input_of l) low))
        (greatest_same (λ j path. LeadsFrom design (lane + 1) (input_of l) j path × IsAlong order (length order) j path) (LeadsFrom design (lane + 1) (input_of l)) (time_along design den d)
        (λ j path g. g.0) (λ j path g. (g, all_among design.arcs order is_order (output_of j) path (input_of l) g.trail.leads)) (label_at rows (place_at bits (input_of l)) lane) (right_input l rows inside rows_in r lane eight));
  }

-- the outputs have places of their own
pub AreOutputPlaces-course : (design : Design) (order : List ℕ) (course : Course) → IsCourse design order course → AreOutputPlaces (length design.elements) course.places
AreOutputPlaces-course design order course h = record {
  count = omega (arith, h.count);
  below = h.places.below;
  apart = λ i l in_i in_l ne same.
      let apart : output_of i ≢ output_of l = omega arith in
      ⊎_elim (λ p. p.entered (l, in_l, refl)) (λ p. p.entered (i, in_i, refl)) (h.places.shared (output_of i) (output_of l) apart (h.places.placed (output_of i) (inl (i, in_i, refl))) same);
}
