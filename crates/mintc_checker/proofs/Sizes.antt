-- How large labels and arrivals are.
use Rattle.std.proofs.Common.{ℕ, ◌≤◌, ◌+◌, ◌*◌, ◌^◌, ℤ, pos, ◌+ℤ◌, ◌*ℤ◌, ◌≤ℤ◌, List, length, arith, sym, ⊎_elim, Option, Some, None, subst}
use Rattle.std.specs.Prelude.{IfSome, unsigned_abs}
use Rattle.std.specs.List.{All}
use Rattle.std.proofs.lemmas.Int.{ints}
use Rattle.std.proofs.lemmas.Bool.{cases_lt}
use Rattle.std.proofs.lemmas.List.{get_or_past}
use Rattle.mintc_timing.specs.Departures.{departure}
use Rattle.mintc_timing.specs.Design.{Design, no_element, element_at}
use Rattle.mintc_timing.specs.Limits.{IsDesign, IsDenominator}
use Rattle.mintc_timing.specs.Order.{ArePathsShort}
use Rattle.mintc_timing.specs.Paths.{greatest_delay, input_of}
use Rattle.mintc_timing.proofs.SharedProducts.{times-mono_positive}
use Rattle.mintc_certificate.specs.Ranges.{IsDeparture}
use Rattle.mintc_certificate.proofs.SharedPathDelays.{path-range}
use Rattle.mintc_lanes.specs.Lanes.{lane_at, AreLanes}
use Rattle.mintc_checker.specs.declared.labels.Labels.{Labels}
use Rattle.mintc_checker.specs.Trails.{IsGreatestTime, LeadsTo, LeadsFrom, time_along}
use Rattle.mintc_checker.specs.Labels.{label_at, AreLabels, IsRowOf}
use Rattle.mintc_checker.specs.Judged.{IsLate, AreTimelyLabels}

pub departure-range : (d : List ℤ) → All IsDeparture d → (j : ℕ) → IsDeparture (departure d j)
departure-range d each j = ⊎_elim (λ low. each j (pos 0) low)
    (λ high. subst IsDeparture (sym (get_or_past d j (pos 0) high)) (omega (arith, ints), omega (arith, ints)))
    (cases_lt j (length d))

module _ (design : Design) (limits : IsDesign design) (short : ArePathsShort design) where
  product-range : (x den : ℤ) → (pos 0 ≤ℤ x) × (x ≤ℤ pos 2000000000) → IsDenominator den → (pos 0 ≤ℤ (x *ℤ den)) × ((x *ℤ den) ≤ℤ pos 200000000000000)
  product-range x den h g =
      let low : (pos 0 *ℤ den) ≤ℤ (x *ℤ den) = times-mono_positive (pos 0) x den h.0 g.0 in
      let high : (x *ℤ den) ≤ℤ (pos 2000000000 *ℤ den) = times-mono_positive x (pos 2000000000) den h.1 g.0 in
      (omega (arith, ints), omega (arith, ints))

  pub trail-range : (den : ℤ) (d : List ℤ) → IsDenominator den → All IsDeparture d → (bit j : ℕ) (path : List ℕ) → LeadsTo design bit j path → IsLate (time_along design den d j path)
  trail-range den d is_den each bit j path h =
      let leaves = departure-range d each j in
      let dq = (limits.each_element j no_element h.element).dq_max in
      let delay = path-range design limits short j bit path h.element h.leads in
      let sum : (pos 0 ≤ℤ ((element_at design j).dq_max +ℤ greatest_delay design.arcs path)) × (((element_at design j).dq_max +ℤ greatest_delay design.arcs path) ≤ℤ pos 2000000000) = (omega (arith, ints), omega (arith, ints)) in
      let product = product-range ((element_at design j).dq_max +ℤ greatest_delay design.arcs path) den sum is_den in
      (omega (arith, ints), omega (arith, ints))

  -- what some trail attains is of that size
  attained-range : (den : ℤ) (d : List ℤ) → IsDenominator den → All IsDeparture d → (p bit : ℕ) (IsTrail : ℕ → List ℕ → Type 0) →
      ((j : ℕ) (path : List ℕ) → IsTrail j path → LeadsFrom design p bit j path) → (x : Option ℤ) → IsGreatestTime IsTrail (time_along design den d) x → IfSome x IsLate
  attained-range den d is_den each p bit IsTrail leads None h = tt
  attained-range den d is_den each p bit IsTrail leads (Some z) h =
      let a = h.attained in
      subst IsLate a.3 (trail-range den d is_den each bit a.0 a.1 (leads a.0 a.1 a.2).trail)

  pub AreTimelyLabels-from_labels : (den : ℤ) (d : List ℤ) (labels : List Labels) → IsDenominator den → All IsDeparture d → AreLabels design den d labels → AreTimelyLabels design den d labels
  AreTimelyLabels-from_labels den d labels is_den each h = record {
    departures = each;
    each = h;
    timely = λ l lane inside eight.
        attained-range den d is_den each (lane + 1) (input_of l) (LeadsFrom design (lane + 1) (input_of l)) (λ j path g. g) (label_at labels (input_of l) lane) (h.each l lane inside eight);
  }

  IsLate-small : (x : Option ℤ) → IfSome x IsLate → IfSome x (λ z. unsigned_abs z ≤ 2 * 10 ^ 18)
  IsLate-small None h = tt
  IsLate-small (Some z) h = omega (arith, ints)

  pub AreLanes-from_row : (den : ℤ) (d : List ℤ) (IsOfKind : ℕ → List ℕ → Type 0) (bit : ℕ) (lanes : List ℤ) → IsDenominator den → All IsDeparture d → IsRowOf design den d IsOfKind bit lanes → AreLanes lanes
  AreLanes-from_row den d IsOfKind bit lanes is_den each h lane eight =
      IsLate-small (lane_at lanes lane)
      (attained-range den d is_den each (lane + 1) bit (λ j path. LeadsFrom design (lane + 1) bit j path × IsOfKind j path) (λ j path g. g.0) (lane_at lanes lane) (h lane eight))
