-- Labels along no arcs.
use Rattle.std.proofs.Common.{◌≡◌, ◌≢◌, ℕ, ◌<◌, ◌+◌, ℤ, pos, ◌+ℤ◌, ◌*ℤ◌, List, [], length, arith, refl, ap, ◌∙◌, sym, ⊎_elim, Some, None, subst}
use Rattle.std.proofs.lemmas.Int.{ints}
use Rattle.std.proofs.lemmas.Bool.{cases_eq}
use Rattle.mintc_timing.specs.Departures.{departure}
use Rattle.mintc_timing.specs.Design.{Design, element_at}
use Rattle.mintc_timing.specs.Paths.{Leads, output_of}
use Rattle.mintc_checker.specs.declared.labels.Labels.{Labels}
use Rattle.mintc_checker.specs.Trails.{IsGreatestTime, LeadsFrom, time_along}
use Rattle.mintc_lanes.specs.Lanes.{lane_at}
use Rattle.mintc_checker.specs.Course.{place_at, IsOutput}
use Rattle.mintc_checker.specs.Labels.{labels_at, label_at, AreRows, IsRowOf, IsStart}
use Rattle.mintc_checker.proofs.Greatest.{greatest_of_none, greatest_of_one}

-- the time of an empty path
pub time-empty : (design : Design) (den : ℤ) (d : List ℤ) (j : ℕ) → time_along design den d j [] ≡ departure d j +ℤ (element_at design j).dq_max *ℤ den
time-empty design den d j =
    let dq : ℤ = (element_at design j).dq_max in
    let none : dq +ℤ pos 0 ≡ dq = omega (arith, ints) in
    ap (λ v. departure d j +ℤ v *ℤ den) none

module _ (design : Design) (den : ℤ) (d : List ℤ) (i lane : ℕ) (time : ℤ) (places : List ℕ) (row : ℕ) (old new : List Labels) (same : length new ≡ length old)
    (inside : i < length design.elements) (of_phase : lane + 1 ≡ (element_at design i).phase)
    (is : time ≡ departure d i +ℤ (element_at design i).dq_max *ℤ den)
    (row_is : row ≡ place_at places (output_of i)) (row_in : row < length old) (apart : (l : ℕ) → l < i → place_at places (output_of l) ≢ row)
    (others : (other : ℕ) → other ≢ row → labels_at new other ≡ labels_at old other)
    (lanes : (other : ℕ) → other ≢ lane → label_at new row other ≡ label_at old row other)
    (own : label_at new row lane ≡ Some time)
    (h : AreRows design den d (IsOutput i) IsStart places old) where
  abbrev Starts : ℕ → ℕ → ℕ → List ℕ → Type 0
  Starts l bit j path = LeadsFrom design (l + 1) bit j path × IsStart j path

  -- a trail of no arcs to the output is of this element
  here : (l j : ℕ) (path : List ℕ) → Starts l (output_of i) j path → j ≡ i
  here l j path g =
      let at : output_of j ≡ output_of i = subst (λ xs. Leads design.arcs (output_of j) xs (output_of i)) g.1 g.0.trail.leads in
      omega arith

  label-own : IsGreatestTime (Starts lane (output_of i)) (time_along design den d) (Some time)
  label-own =
      greatest_of_one (Starts lane (output_of i)) (time_along design den d) i [] time
      (record { trail = record { element = inside; leads = refl }; phase = sym of_phase }, refl)
      (time-empty design den d i ∙ sym is)
      (λ j path g. ap (time_along design den d j) g.1 ∙ time-empty design den d j ∙ ap (λ k. departure d k +ℤ (element_at design k).dq_max *ℤ den) (here lane j path g) ∙ sym is)

  label-none : (l : ℕ) → l ≢ lane → IsGreatestTime (Starts l (output_of i)) (time_along design den d) None
  label-none l ne = greatest_of_none (Starts l (output_of i)) (time_along design den d) (λ j path g.
      let phase : (element_at design i).phase ≡ l + 1 = ap (λ k. (element_at design k).phase) (sym (here l j path g)) ∙ g.0.phase in
      ne (omega arith))

  empty : (l : ℕ) → l < 8 → label_at old row l ≡ None
  empty l eight = h.others row l row_in eight (λ bit o at. apart o.0 o.1 (ap (place_at places) (sym o.2) ∙ at))

  own_row : IsRowOf design den d IsStart (output_of i) (labels_at new row).lanes
  own_row l eight = ⊎_elim
      (λ (e : l ≡ lane). rw (e, own) label-own)
      (λ ne. rw (lanes l ne, empty l eight) (label-none l ne)) (cases_eq l lane)

  pub AreRows-begun : AreRows design den d (IsOutput (i + 1)) IsStart places new
  AreRows-begun = record {
    held = λ bit o. ⊎_elim
        (λ (e : o.0 ≡ i).
        let at : bit ≡ output_of i = o.2 ∙ ap output_of e in
        subst (λ b. IsRowOf design den d IsStart b (labels_at new (place_at places b)).lanes) (sym at)
        (subst (λ r. IsRowOf design den d IsStart (output_of i) (labels_at new r).lanes) row_is own_row))
        (λ ne.
        let low : o.0 < i = omega (arith, o.1) in
        let away : place_at places bit ≢ row = λ s. apart o.0 low (ap (place_at places) (sym o.2) ∙ s) in
        subst (λ (r : Labels). IsRowOf design den d IsStart bit r.lanes) (sym (others (place_at places bit) away)) (h.held bit (o.0, low, o.2)))
        (cases_eq o.0 i);
    others = λ place l below eight none.
        let away : place ≢ row = λ s. none (output_of i) (i, omega arith, refl) (sym row_is ∙ sym s) in
        ap (λ (r : Labels). lane_at r.lanes l) (others place away) ∙ h.others place l (omega (arith, same)) eight (λ bit o. none bit (o.0, omega (arith, o.1), o.2));
  }
