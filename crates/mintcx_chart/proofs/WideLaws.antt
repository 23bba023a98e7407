-- Times as they are read from machine words.
use Rattle.std.proofs.Common.{◌≡◌, ℤ, pos, negsuc, ◌≤ℤ◌, ◌<ℤ◌, ◌+ℤ◌, ◌-ℤ◌, ◌*ℤ◌, arith, refl, ap, ◌∙◌, sym, subst, to_z, of_z, w64}
use Rattle.std.specs.Int.{w128}
use Rattle.std.proofs.lemmas.Int.{ints, to_z-of_z}
use Rattle.mintc_timing.specs.Limits.{IsNumerator}
use Rattle.mintcx_picture.specs.Places.{IsScaleTime}
use Rattle.mintcx_chart.specs.Ranges.{IsCycle, IsDrawnTime, IsLaps}
use Rattle.mintcx_chart.specs.Stretches.{shown_first, shown_last, shown_span}

abbrev pub wide : ℤ → ℤ
wide x = to_z w128 (of_z w128 x)

abbrev pub short : ℤ → ℤ
short x = to_z w64 (of_z w64 x)

pub read_wide : (x : ℤ) → IsDrawnTime x → wide x ≡ x
read_wide x (low, high) = to_z-of_z w128 x (omega (arith, ints))

pub read_scale : (x : ℤ) → IsScaleTime x → wide x ≡ x
read_scale x (low, high) = to_z-of_z w128 x (omega (arith, ints))

pub read_numerator : (x : ℤ) → IsNumerator x → short x ≡ x
read_numerator x (low, high) = to_z-of_z w64 x (omega (arith, ints))

pub read_laps : (x : ℤ) → IsLaps x → short x ≡ x
read_laps x (low, high) = to_z-of_z w64 x (omega (arith, ints))

pub read_cycle : (x : ℤ) → IsCycle x → short x ≡ x
read_cycle x (low, high) = to_z-of_z w64 x (omega (arith, ints))

-- when a phase starts in a lap
module _ (f l s p : ℤ) (start : f ≡ s) (laps : l ≡ p) (in_range : IsNumerator s) (low : negsuc 99999999999999 ≤ℤ l) (high : l ≤ℤ pos 100000000000000000000) where
  sum_is : wide (wide f +ℤ wide l) ≡ f +ℤ l
  sum_is =
      let first : IsDrawnTime f = subst IsDrawnTime (sym start) (omega (arith, ints, in_range.0), omega (arith, ints, in_range.1)) in
      let second : IsDrawnTime l = (omega (arith, ints, low), omega (arith, ints, high)) in
      rw (read_wide f first, read_wide l second) (read_wide (f +ℤ l) (omega (arith, ints, start, in_range.0, low), omega (arith, ints, start, in_range.1, high)))

  pub opening_is : wide (wide f +ℤ wide l) ≡ s +ℤ p
  opening_is = sum_is ∙ ap (λ (v : ℤ). v +ℤ l) start ∙ ap (λ (v : ℤ). s +ℤ v) laps

  pub opening_low : negsuc 99999999999999 ≤ℤ wide (wide f +ℤ wide l)
  opening_low = rw sum_is (omega (arith, ints, start, in_range.0, low))

  pub opening_high : wide (wide f +ℤ wide l) ≤ℤ pos 200000000000000000000
  opening_high = rw sum_is (omega (arith, ints, start, in_range.1, high))

-- so many cycles
pub laps_is : (l lap cycle : ℤ) → l ≡ short lap *ℤ short cycle → IsLaps lap → IsCycle cycle → l ≡ lap *ℤ cycle
laps_is l lap cycle e laps cycles = e ∙ ap (λ (v : ℤ). v *ℤ short cycle) (read_laps lap laps) ∙ ap (λ (v : ℤ). lap *ℤ v) (read_cycle cycle cycles)

-- what is shown of a stretch is too long, or isn't
module _ (den cycle a b first last f l m t : ℤ) (same_first : a ≡ first) (same_last : b ≡ last) (begins : f ≡ shown_first den a b) (ends : l ≡ shown_last den a b)
    (most : m ≡ pos 80 *ℤ cycle) (long : t ≡ l -ℤ f) where
  pub begins_is : f ≡ shown_first den first last
  begins_is = begins ∙ ap (λ (v : ℤ). shown_first den v b) same_first ∙ ap (λ (v : ℤ). shown_first den first v) same_last

  pub ends_is : l ≡ shown_last den first last
  ends_is = ends ∙ ap (λ (v : ℤ). shown_last den v b) same_first ∙ ap (λ (v : ℤ). shown_last den first v) same_last

  long_is : t ≡ shown_span den first last
  long_is = long ∙ ap (λ (v : ℤ). v -ℤ f) ends_is ∙ ap (λ (v : ℤ). shown_last den first last -ℤ v) begins_is

  pub too_long : m <ℤ t → (pos 80 *ℤ cycle) <ℤ shown_span den first last
  too_long h = subst (λ (v : ℤ). v <ℤ shown_span den first last) most (subst (λ (v : ℤ). m <ℤ v) long_is h)

  pub not_too_long : t ≤ℤ m → shown_span den first last ≤ℤ (pos 80 *ℤ cycle)
  not_too_long h = subst (λ (v : ℤ). shown_span den first last ≤ℤ v) most (subst (λ (v : ℤ). v ≤ℤ m) long_is h)
