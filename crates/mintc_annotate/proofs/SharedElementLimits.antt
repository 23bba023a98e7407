-- The element of a latch or flop is within its limits where what is said of it is.
use Rattle.std.proofs.Common.{◌≡◌, ℕ, ℤ, pos, negsuc, ◌≤ℤ◌, Bool, true, false, ◌||◌, List, Option, Some, None, is_some, unwrap_or, IsFalse, refl, arith}
use Rattle.std.specs.Prelude.{int_le}
use Rattle.std.proofs.lemmas.Bool.{and_parts}
use Rattle.std.proofs.lemmas.Int.{ints}
use Rattle.mintc_cells.specs.declared.cell.Cell.{Cell}
use Rattle.mintc_cells.specs.declared.cell.Cell.TheVariants.{Latch, Flop}
use Rattle.mintc_cells.specs.Rules.{is_cell}
use Rattle.mintc_toml.specs.Rules.{is_delay, is_margin}
use Rattle.mintc_timing.specs.Limits.{IsElement, IsDelay, IsGap, IsPhase}
use Rattle.mintc_annotate_resolve.specs.Pins.{is_storage}
use Rattle.mintc_annotate_resolve.specs.Resolution.{Target, dq_of, cq_of, setup_of, hold_of, width_of}
use Rattle.mintc_annotate.specs.Made.{RangeOf, first_range, unless_own_cq, greatest_or, element_of}
use Rattle.mintc_annotate_resolve.proofs.SharedRangeLimits.{IsRange}

pub margin_is : (z : ℤ) → is_margin z ≡ true → IsGap z
margin_is z h = let p = and_parts (int_le (negsuc 999999999) z) (int_le z (pos 1000000000)) h in let low = p.0 in let high = p.1 in (grind (arith, ints, low), grind (arith, ints, high))

pub delay_is : (z : ℤ) → is_delay z ≡ true → IsDelay z
delay_is z h = let p = and_parts (int_le (pos 0) z) (int_le z (pos 1000000000)) h in let low = p.0 in let high = p.1 in (grind (arith, ints, low), grind (arith, ints, high))

pub order_is : (x y : ℤ) → int_le x y ≡ true → x ≤ℤ y
order_is x y h = grind (arith, ints, h)

-- a least and a greatest delay
abbrev pub AreDelays : ℤ × ℤ → Type 0
AreDelays r = IsDelay r.0 × IsDelay r.1 × (r.0 ≤ℤ r.1)

-- what is said of a target, if anything, is within its limits
abbrev pub IsFit : Target → Option (ℤ × ℤ) → Type 0
IsFit m o = (r : ℤ × ℤ) → o ≡ Some r → IsRange m r

dq_said : (o : Option (ℤ × ℤ)) (l : ℕ) (r : ℤ × ℤ) → IsFit (dq_of l) o → o ≡ Some r → AreDelays r
dq_said o l r fit e = let i = fit r e in (i.low, i.high, i.ordered)

cq_said : (o : Option (ℤ × ℤ)) (l : ℕ) (r : ℤ × ℤ) → IsFit (cq_of l) o → o ≡ Some r → AreDelays r
cq_said o l r fit e = let i = fit r e in (i.low, i.high, i.ordered)

borrowed_in : (has_cq : Bool) (o : Option (ℤ × ℤ)) (r : ℤ × ℤ) → ((q : ℤ × ℤ) → o ≡ Some q → AreDelays q) → unless_own_cq has_cq o ≡ Some r → AreDelays r
borrowed_in true o r give e = absurd (cc)
borrowed_in false o r give e = give r e

first_in : (a b : Option (ℤ × ℤ)) (default : ℤ × ℤ) → ((q : ℤ × ℤ) → a ≡ Some q → AreDelays q) → ((q : ℤ × ℤ) → b ≡ Some q → AreDelays q) → AreDelays default → AreDelays (first_range a b default)
first_in None None default x y z = z
first_in None (Some r) default x y z = y r refl
first_in (Some r) b default x y z = x r refl

pub or_in : (a : Option (ℤ × ℤ)) (default : ℤ × ℤ) → ((q : ℤ × ℤ) → a ≡ Some q → AreDelays q) → AreDelays default → AreDelays (unwrap_or a default)
or_in None default x z = z
or_in (Some r) default x z = x r refl

greatest_in : (P : ℤ → Type 0) (o : Option (ℤ × ℤ)) (default : ℤ) → ((q : ℤ × ℤ) → o ≡ Some q → P q.1) → P default → P (greatest_or o default)
greatest_in P None default x z = z
greatest_in P (Some r) default x z = x r refl

hold_in : (o : Option (ℤ × ℤ)) (has_hold : Bool) (hold : ℤ) → (has_hold ≡ false → hold ≡ pos 0) → IsFalse (is_some o || has_hold) → greatest_or o hold ≡ pos 0
hold_in None false hold none h = none refl
hold_in _ _ hold none h = absurd (cc)

-- what every cell of a description keeps
abbrev pub KeepsHold : Cell → Type 0
KeepsHold (Latch a b c d e f hold has_hold g h i j k m) = has_hold ≡ false → hold ≡ pos 0
KeepsHold (Flop a b c d e f hold has_hold g h i) = has_hold ≡ false → hold ≡ pos 0
KeepsHold _ = Unit {0}

-- the element of a latch or flop
pub storage_in : (ranges : RangeOf) → ((m : Target) → IsFit m (ranges m)) → (name : List ℕ) (l phase k : ℕ) (cell : Cell) → is_cell cell ≡ true → KeepsHold cell → is_storage cell ≡ true → IsPhase k phase → IsElement k (element_of ranges name l phase cell)
storage_in ranges fit name l phase k (Latch pin_d pin_g high outputs ignored c_setup c_hold has_hold dq_min dq_max cq_min cq_max has_cq c_width) rules keeps stored is_phase =
    let parts = and_parts _ _ rules in
    let limits = and_parts _ _ (and_parts _ _ parts.0).1 in
    let margins = and_parts _ _ limits.0 in
    let both = and_parts _ _ margins.0 in
    let delays = and_parts _ _ limits.1 in
    let dqs = and_parts _ _ delays.0 in
    let cqs = and_parts _ _ delays.1 in
    let orders = and_parts _ _ parts.1 in
    let dq_default : AreDelays (dq_min, dq_max) = (delay_is dq_min dqs.0, delay_is dq_max dqs.1, order_is dq_min dq_max orders.0) in
    let cq_default : AreDelays (cq_min, cq_max) = (delay_is cq_min cqs.0, delay_is cq_max cqs.1, order_is cq_min cq_max orders.1) in
    let dq = first_in (ranges (dq_of l)) (unless_own_cq has_cq (ranges (cq_of l))) (dq_min, dq_max) (λ q e. dq_said (ranges (dq_of l)) l q (fit (dq_of l)) e) (λ q e. borrowed_in has_cq (ranges (cq_of l)) q (λ r f. cq_said (ranges (cq_of l)) l r (fit (cq_of l)) f) e) dq_default in
    let cq = first_in (ranges (cq_of l)) (unless_own_cq has_cq (ranges (dq_of l))) (cq_min, cq_max) (λ q e. cq_said (ranges (cq_of l)) l q (fit (cq_of l)) e) (λ q e. borrowed_in has_cq (ranges (dq_of l)) q (λ r f. dq_said (ranges (dq_of l)) l r (fit (dq_of l)) f) e) cq_default in
    grind (
      arith,
      is_phase,
      dq,
      cq,
      greatest_in IsGap (ranges (setup_of l)) c_setup (λ q e. (fit (setup_of l) q e).high) (margin_is c_setup both.0),
      greatest_in IsGap (ranges (hold_of l)) c_hold (λ q e. (fit (hold_of l) q e).high) (margin_is c_hold both.1),
      hold_in (ranges (hold_of l)) has_hold c_hold keeps,
      greatest_in IsDelay (ranges (width_of l)) c_width (λ q e. (fit (width_of l) q e).high) (delay_is c_width margins.1),
    )
storage_in ranges fit name l phase k (Flop pin_d pin_clock rising outputs ignored c_setup c_hold has_hold cq_min cq_max c_width) rules keeps stored is_phase =
    let parts = and_parts _ _ rules in
    let limits = and_parts _ _ (and_parts _ _ parts.0).1 in
    let margins = and_parts _ _ limits.0 in
    let both = and_parts _ _ margins.0 in
    let delays = and_parts _ _ limits.1 in
    let default : AreDelays (cq_min, cq_max) = (delay_is cq_min delays.0, delay_is cq_max delays.1, order_is cq_min cq_max parts.1) in
    let dq = or_in (ranges (dq_of l)) (cq_min, cq_max) (λ q e. dq_said (ranges (dq_of l)) l q (fit (dq_of l)) e) default in
    grind (
      arith,
      is_phase,
      dq,
      greatest_in IsGap (ranges (setup_of l)) c_setup (λ q e. (fit (setup_of l) q e).high) (margin_is c_setup both.0),
      greatest_in IsGap (ranges (hold_of l)) c_hold (λ q e. (fit (hold_of l) q e).high) (margin_is c_hold both.1),
      hold_in (ranges (hold_of l)) has_hold c_hold keeps,
      greatest_in IsDelay (ranges (width_of l)) c_width (λ q e. (fit (width_of l) q e).high) (delay_is c_width margins.1),
    )
storage_in ranges fit name l phase k _ rules keeps stored is_phase = absurd (cc)
