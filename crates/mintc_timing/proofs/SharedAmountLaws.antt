-- Setups, holds and their amounts; the violations are determined.
use Rattle.std.proofs.Common.{ℤ, pos, ◌≤ℤ◌, ◌+ℤ◌, ◌-ℤ◌, ◌*ℤ◌, Bool, true, false, cond, IsTrue, List, ◌++◌, arith, refl, ap, ◌∙◌, sym, Option, Some, None, IfSome, option_map, MatchBool, ◌↔◌, inl, inr}
use Rattle.std.proofs.lemmas.Int.{ints}
use Rattle.std.specs.Int.{int_max}
use Rattle.mintc_timing.specs.Design.{element_at, phase_of}
use Rattle.mintc_timing.specs.Clocking.{width_of}
use Rattle.mintc_timing.specs.Extremes.{greatest_of, least_of}
use Rattle.mintc_timing.specs.Departures.{departure, late_arrivals, early_arrivals}
use Rattle.mintc_timing.specs.Violations.{failed, clock_checks, setup_checks, hold_checks}
use Rattle.mintc_timing.specs.Laws.{ViolationsAreDetermined, SetupsHaveAmounts, HoldsHaveAmounts}
use Rattle.mintc_timing.proofs.SharedDeterminedLaws.{late_are_determined_lem, early_are_determined_lem}

-- a number moved to the other side
moved : (x y : ℤ) → (x ≤ℤ y) ↔ ((x -ℤ y) ≤ℤ pos 0)
moved x y = ((λ h. omega (arith, ints)), (λ h. omega (arith, ints)))

flop_setup : (o : Option ℤ) (setup : ℤ) → IfSome o (λ a. (a +ℤ setup) ≤ℤ pos 0) ↔ IfSome (option_map (λ a. a +ℤ setup) o) (λ x. x ≤ℤ pos 0)
flop_setup None setup = ((λ h. h), (λ h. h))
flop_setup (Some a) setup = ((λ h. h), (λ h. h))

setup_by : (flop : Bool) (o : Option ℤ) (setup late width : ℤ) →
    MatchBool flop (IfSome o (λ a. (a +ℤ setup) ≤ℤ pos 0)) ((late +ℤ setup) ≤ℤ width)
    ↔ IfSome (cond flop (option_map (λ a. a +ℤ setup) o) (Some (late +ℤ setup -ℤ width))) (λ x. x ≤ℤ pos 0)
setup_by true o setup late width = flop_setup o setup
setup_by false o setup late width = moved (late +ℤ setup) width

pub setups_have_amounts_lem : SetupsHaveAmounts
setups_have_amounts_lem t s d l =
    setup_by (element_at t.flat l).flop (greatest_of (late_arrivals t s d l)) ((element_at t.flat l).setup *ℤ s.den) (int_max (pos 0) (departure d l)) (width_of s (phase_of t.flat l))

hold_at : (flop : Bool) (a hold width cycle : ℤ) →
    MatchBool flop (hold ≤ℤ (a +ℤ cycle)) ((width +ℤ hold) ≤ℤ (a +ℤ cycle)) ↔ ((cond flop (pos 0) width +ℤ hold -ℤ (a +ℤ cycle)) ≤ℤ pos 0)
hold_at true a hold width cycle = ((λ h. omega (arith, ints)), (λ h. omega (arith, ints)))
hold_at false a hold width cycle = moved (width +ℤ hold) (a +ℤ cycle)

hold_by : (has flop : Bool) (o : Option ℤ) (hold width cycle : ℤ) →
    (IsTrue has → IfSome o (λ a. MatchBool flop (hold ≤ℤ (a +ℤ cycle)) ((width +ℤ hold) ≤ℤ (a +ℤ cycle))))
    ↔ IfSome (cond has (option_map (λ a. cond flop (pos 0) width +ℤ hold -ℤ (a +ℤ cycle)) o) None) (λ x. x ≤ℤ pos 0)
hold_by false flop o hold width cycle = ((λ h. tt), (λ h e. absurd cc))
hold_by true flop None hold width cycle = ((λ h. tt), (λ h e. tt))
hold_by true flop (Some a) hold width cycle = ((λ h. (hold_at flop a hold width cycle).0 (h refl)), (λ h e. (hold_at flop a hold width cycle).1 h))

pub holds_have_amounts_lem : HoldsHaveAmounts
holds_have_amounts_lem t s early l =
    hold_by (element_at t.flat l).has_hold (element_at t.flat l).flop (least_of (early_arrivals t s early l)) ((element_at t.flat l).hold *ℤ s.den) (width_of s (phase_of t.flat l)) s.cycle

pub violations_are_determined_lem : ViolationsAreDetermined
violations_are_determined_lem t s vs ws (inl h) (inl g) = inr (h, g)
violations_are_determined_lem t s vs ws (inl h) (inr g) = absurd (g.0 h.0 h.1 h.2)
violations_are_determined_lem t s vs ws (inr h) (inl g) = absurd (h.0 g.0 g.1 g.2)
violations_are_determined_lem t s vs ws (inr h) (inr g) =
    let late = late_are_determined_lem t s h.1.0 g.1.0 h.1.2 g.1.2 in
    let early = early_are_determined_lem t s h.1.1 g.1.1 h.1.3 g.1.3 in
    inl (h.1.4 ∙ ap (λ (d : List ℤ). failed (clock_checks t s ++ setup_checks t s d ++ hold_checks t s h.1.1)) late
    ∙ ap (λ (d : List ℤ). failed (clock_checks t s ++ setup_checks t s g.1.0 ++ hold_checks t s d)) early ∙ sym g.1.4)
