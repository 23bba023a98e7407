-- Numbers of rows as they are read from machine words.
use Rattle.std.proofs.Common.{◌≡◌, ℤ, pos, negsuc, ◌≤ℤ◌, ◌+ℤ◌, ◌*ℤ◌, arith, ap, ◌∙◌, sym, subst, to_z, of_z, w64}
use Rattle.std.specs.Int.{w128}
use Rattle.std.proofs.lemmas.Int.{ints, to_z-of_z}
use Rattle.mintc_timing.specs.Limits.{IsDenominator, IsNumerator}
use Rattle.mintcx_chain.specs.Names.{IsStageDelay}
use Rattle.mintcx_chain.specs.Rows.{IsChainTime}
use Rattle.mintcx_chart.specs.Ranges.{IsCycle, IsDrawnTime, IsLaps}

abbrev pub wide : ℤ → ℤ
wide x = to_z w128 (of_z w128 x)

abbrev pub short : ℤ → ℤ
short x = to_z w64 (of_z w64 x)

pub read_drawn : (x : ℤ) → IsDrawnTime x → wide x ≡ x
read_drawn x (low, high) = to_z-of_z w128 x (omega (arith, ints))

pub chain_drawn : (x : ℤ) → IsChainTime x → IsDrawnTime x
chain_drawn x (low, high) = (omega (arith, ints), omega (arith, ints))

pub read_chain : (x : ℤ) → IsChainTime x → wide x ≡ x
read_chain x h = read_drawn x (chain_drawn x h)

pub read_numerator : (x : ℤ) → IsNumerator x → short x ≡ x
read_numerator x (low, high) = to_z-of_z w64 x (omega (arith, ints))

pub read_laps : (x : ℤ) → IsLaps x → short x ≡ x
read_laps x (low, high) = to_z-of_z w64 x (omega (arith, ints))

read_delay : (x : ℤ) → IsStageDelay x → short x ≡ x
read_delay x (low, high) = to_z-of_z w64 x (omega (arith, ints))

pub read_den : (x : ℤ) → IsDenominator x → short x ≡ x
read_den x (low, high) = to_z-of_z w64 x (omega (arith, ints))

pub read_cycle : (x : ℤ) → IsCycle x → short x ≡ x
read_cycle x (low, high) = to_z-of_z w64 x (omega (arith, ints))

-- so they are in their ranges
pub keep_drawn : (x : ℤ) → IsDrawnTime x → IsDrawnTime (wide x)
keep_drawn x h = subst IsDrawnTime (sym (read_drawn x h)) h

pub keep_numerator : (x : ℤ) → IsNumerator x → IsNumerator (short x)
keep_numerator x h = subst IsNumerator (sym (read_numerator x h)) h

pub keep_laps : (x : ℤ) → IsLaps x → IsLaps (short x)
keep_laps x h = subst IsLaps (sym (read_laps x h)) h

pub keep_delay : (x : ℤ) → IsStageDelay x → IsStageDelay (short x)
keep_delay x h = subst IsStageDelay (sym (read_delay x h)) h

pub keep_den : (x : ℤ) → IsDenominator x → IsDenominator (short x)
keep_den x h = subst IsDenominator (sym (read_den x h)) h

pub keep_cycle : (x : ℤ) → pos 1 ≤ℤ x → IsNumerator x → IsCycle (short x)
keep_cycle x some h = let is : IsCycle x = (some, h.1) in subst IsCycle (sym (read_cycle x is)) is

-- when a stage ends
module _ (at f t delay den : ℤ) (read : f ≡ short t) (product : t ≡ short delay *ℤ short den) (time : IsChainTime at) (span : IsStageDelay delay) (some : IsDenominator den)
    (low : negsuc 399999999999999 ≤ℤ t) (high : t ≤ℤ pos 400000000000000) where
  same : f ≡ t
  same = read ∙ to_z-of_z w64 t (omega (arith, ints, low, high))

  near : IsDrawnTime f
  near = subst IsDrawnTime (sym same) (omega (arith, ints, low), omega (arith, ints, high))

  sum_near : IsDrawnTime (at +ℤ f)
  sum_near = subst (λ (v : ℤ). IsDrawnTime (at +ℤ v)) (sym same) (omega (arith, ints, low, time.0), omega (arith, ints, high, time.1))

  sum_is : wide (wide at +ℤ wide f) ≡ at +ℤ f
  sum_is = rw (read_chain at time, read_drawn f near) (read_drawn (at +ℤ f) sum_near)

  product_is : t ≡ delay *ℤ den
  product_is = product ∙ ap (λ (v : ℤ). v *ℤ short den) (read_delay delay span) ∙ ap (λ (v : ℤ). delay *ℤ v) (read_den den some)

  pub ends_is : wide (wide at +ℤ wide f) ≡ at +ℤ delay *ℤ den
  ends_is = sum_is ∙ ap (λ (v : ℤ). at +ℤ v) (same ∙ product_is)

  pub ends_range : IsDrawnTime (wide (wide at +ℤ wide f))
  ends_range = subst IsDrawnTime (sym sum_is) sum_near
