-- Times of a report are in their range.
use Rattle.std.proofs.Common.{◌≡◌, ℕ, zero, suc, ◌≤◌, ◌*◌, ℤ, pos, negsuc, ◌≤ℤ◌, ◌+ℤ◌, ◌-ℤ◌, ◌*ℤ◌, arith}
use Rattle.std.proofs.lemmas.Int.{ints}
use Rattle.mintc_timing.proofs.SharedProducts.{times-mono}

-- so many cycles but one
pub turns_low : (cycle : ℕ) (time : ℤ) → pos 0 ≤ℤ time → time ≤ℤ pos 100000000000000 → negsuc 99999999999999 ≤ℤ ((pos cycle -ℤ pos 1) *ℤ time)
turns_low cycle (pos n) low most =
    let least : negsuc 0 ≤ℤ (pos cycle -ℤ pos 1) = omega (arith, ints) in
    let h = times-mono (negsuc 0) (pos cycle -ℤ pos 1) n least in
    omega (arith, ints)
turns_low cycle (negsuc n) low most = absurd (omega (arith, ints))

pub turns_high : (cycle : ℕ) (time : ℤ) → cycle ≤ 1000000 → pos 0 ≤ℤ time → time ≤ℤ pos 100000000000000 →
    ((pos cycle -ℤ pos 1) *ℤ time) ≤ℤ pos 100000000000000000000
turns_high cycle (pos n) few low most =
    let greatest : (pos cycle -ℤ pos 1) ≤ℤ pos 1000000 = omega (arith, ints) in
    let h = times-mono (pos cycle -ℤ pos 1) (pos 1000000) n greatest in
    omega (arith, ints)
turns_high cycle (negsuc n) few low most = absurd (omega (arith, ints))

-- a delay over a denominator
pub span_low : (x den : ℤ) → negsuc 3999999999 ≤ℤ x → pos 1 ≤ℤ den → den ≤ℤ pos 100000 → negsuc 399999999999999 ≤ℤ (x *ℤ den)
span_low x (pos n) low some most = let h = times-mono (negsuc 3999999999) x n low in omega (arith, ints)
span_low x (negsuc n) low some most = absurd (omega (arith, ints))

pub span_high : (x den : ℤ) → x ≤ℤ pos 4000000000 → pos 1 ≤ℤ den → den ≤ℤ pos 100000 → (x *ℤ den) ≤ℤ pos 400000000000000
span_high x (pos n) high some most = let h = times-mono x (pos 4000000000) n high in omega (arith, ints)
span_high x (negsuc n) high some most = absurd (omega (arith, ints))

pub span_most : (x den : ℤ) → x ≤ℤ pos 1000000000 → pos 1 ≤ℤ den → den ≤ℤ pos 100000 → (x *ℤ den) ≤ℤ pos 100000000000000
span_most x (pos n) high some most = let h = times-mono x (pos 1000000000) n high in omega (arith, ints)
span_most x (negsuc n) high some most = absurd (omega (arith, ints))

pub span_some : (x den : ℤ) → pos 0 ≤ℤ x → pos 1 ≤ℤ den → pos 0 ≤ℤ (x *ℤ den)
span_some x (pos n) some den = let h = times-mono (pos 0) x n some in omega (arith, ints)
span_some x (negsuc n) some den = absurd (omega (arith, ints))

pub ruleset spans = (span_low, span_high, span_some)

-- so many cycles
pub cycles_low : (cycles : ℕ) (time : ℤ) → pos 0 ≤ℤ time → pos 0 ≤ℤ (pos cycles *ℤ time)
cycles_low cycles (pos n) low = omega (arith, ints)
cycles_low cycles (negsuc n) low = absurd (omega (arith, ints))

pub cycles_high : (cycles : ℕ) (time : ℤ) → cycles ≤ 32768 → pos 0 ≤ℤ time → time ≤ℤ pos 100000000000000 → (pos cycles *ℤ time) ≤ℤ pos 3276800000000000000
cycles_high cycles (pos n) few low most =
    let greatest : pos cycles ≤ℤ pos 32768 = omega (arith, ints) in
    let h = times-mono (pos cycles) (pos 32768) n greatest in
    omega (arith, ints)
cycles_high cycles (negsuc n) few low most = absurd (omega (arith, ints))
