-- The last arrival at an element, phase by phase.
use Rattle.std.proofs.Common.{◌≡◌, ℕ, ◌+◌, ℤ, ◌+ℤ◌, List, length, arith, refl, ap, ◌∙◌, sym, inl, inr, ⊎_elim, Option}
use Rattle.std.specs.Int.{int_max}
use Rattle.std.proofs.lemmas.Bool.{cases_eq}
use Rattle.mintc_timing.specs.declared.clocking.Schedule.{Schedule}
use Rattle.mintc_timing.specs.Clocking.{shift_of}
use Rattle.mintc_timing.specs.Design.{Design, no_element, element_at}
use Rattle.mintc_timing.specs.Limits.{IsDesign}
use Rattle.mintc_timing.specs.Paths.{input_of}
use Rattle.mintc_lanes.specs.Lanes.{joined}
use Rattle.mintc_checker.specs.Trails.{LeadsTo, LeadsFrom, LeadsFromUpTo, time_along, arrival_along, IsLabel, IsLastArrival, IsLastUpTo}
use Rattle.mintc_checker.proofs.Greatest.{greatest_alike, greatest_joined}

module _ (design : Design) (limits : IsDesign design) (s : Schedule) (d : List ℤ) (l q : ℕ) where
  pub last-more : (p : ℕ) (last label : Option ℤ) (w : ℤ) → w ≡ shift_of s (p + 1) q → IsLastUpTo design s d p l q last → IsLabel design s.den d (p + 1) (input_of l) label →
      IsLastUpTo design s d (p + 1) l q (joined int_max last label w)
  last-more p last label w is h g =
      greatest_joined (LeadsFromUpTo design p (input_of l)) (LeadsFrom design (p + 1) (input_of l)) (LeadsFromUpTo design (p + 1) (input_of l))
      (arrival_along design s d q) (time_along design s.den d) (arrival_along design s d q) w
      (λ j path k. let low = k.phase in (record { trail = k.trail; phase = omega arith }, refl))
      (λ j path k. let at = k.phase in (path, record { trail = k.trail; phase = omega arith }, moved j path k.phase))
      (λ j path k. ⊎_elim
      (λ (e : (element_at design j).phase ≡ p + 1). inr (path, record { trail = k.trail; phase = e }, moved j path e))
      (λ ne. let low = k.phase in inl (record { trail = k.trail; phase = omega arith }, refl))
      (cases_eq (element_at design j).phase (p + 1)))
      last label h g
    where
      moved : (j : ℕ) (path : List ℕ) → (element_at design j).phase ≡ p + 1 → arrival_along design s d q j path ≡ time_along design s.den d j path +ℤ w
      moved j path e = ap (λ r. time_along design s.den d j path +ℤ shift_of s r q) e ∙ ap (λ v. time_along design s.den d j path +ℤ v) (sym is)

  pub last-all : (p : ℕ) (last : Option ℤ) → p ≡ length design.phases → q ≡ (element_at design l).phase → IsLastUpTo design s d p l q last → IsLastArrival design s d l last
  last-all p last all own h =
      greatest_alike (LeadsFromUpTo design p (input_of l)) (LeadsTo design (input_of l)) (arrival_along design s d q) (arrival_along design s d (element_at design l).phase)
      (λ j path k. (k.trail, ap (λ r. arrival_along design s d r j path) (sym own)))
      (λ j path k.
      let named = (limits.each_element j no_element k.element).phase in
      record { trail = k; phase = omega (arith, named.1) })
      last h
