-- Products of times are in their ranges.
use Rattle.std.proofs.Common.{◌≡◌, ℕ, ◌≤◌, ◌*◌, ℤ, pos, negsuc, ◌≤ℤ◌, ◌*ℤ◌, arith}
use Rattle.std.proofs.lemmas.Int.{ints}
use Rattle.mintc_timing.proofs.SharedProducts.{times-mono}

-- a span over a denominator
pub span_low : (x den : ℤ) → negsuc 3999999999 ≤ℤ x → pos 1 ≤ℤ den → den ≤ℤ pos 100000 → negsuc 399999999999999 ≤ℤ (x *ℤ den)
span_low x (pos n) low some most = let h = times-mono (negsuc 3999999999) x n low in omega (arith, ints)
span_low x (negsuc n) low some most = absurd (omega (arith, ints))

pub span_high : (x den : ℤ) → x ≤ℤ pos 4000000000 → pos 1 ≤ℤ den → den ≤ℤ pos 100000 → (x *ℤ den) ≤ℤ pos 400000000000000
span_high x (pos n) high some most = let h = times-mono x (pos 4000000000) n high in omega (arith, ints)
span_high x (negsuc n) high some most = absurd (omega (arith, ints))

-- so many cycles
pub laps_low : (laps cycle : ℤ) → negsuc 0 ≤ℤ laps → pos 1 ≤ℤ cycle → cycle ≤ℤ pos 100000000000000 → negsuc 99999999999999 ≤ℤ (laps *ℤ cycle)
laps_low laps (pos n) few low most = let h = times-mono (negsuc 0) laps n few in omega (arith, ints)
laps_low laps (negsuc n) few low most = absurd (omega (arith, ints))

pub laps_high : (laps cycle : ℤ) → laps ≤ℤ pos 1000000 → pos 1 ≤ℤ cycle → cycle ≤ℤ pos 100000000000000 → (laps *ℤ cycle) ≤ℤ pos 100000000000000000000
laps_high laps (pos n) few low most = let h = times-mono laps (pos 1000000) n few in omega (arith, ints)
laps_high laps (negsuc n) few low most = absurd (omega (arith, ints))

-- when a lap begins
pub lap_low : (lap cycle : ℤ) → negsuc 99999999999999999999999 ≤ℤ lap → pos 1 ≤ℤ cycle → cycle ≤ℤ pos 100000000000000 → negsuc 9999999999999999999999999999999999999 ≤ℤ (lap *ℤ cycle)
lap_low lap (pos n) low some most = let h = times-mono (negsuc 99999999999999999999999) lap n low in omega (arith, ints)
lap_low lap (negsuc n) low some most = absurd (omega (arith, ints))

pub lap_high : (lap cycle : ℤ) → lap ≤ℤ pos 100000000000000000000000 → pos 1 ≤ℤ cycle → cycle ≤ℤ pos 100000000000000 → (lap *ℤ cycle) ≤ℤ pos 10000000000000000000000000000000000000
lap_high lap (pos n) high some most = let h = times-mono lap (pos 100000000000000000000000) n high in omega (arith, ints)
lap_high lap (negsuc n) high some most = absurd (omega (arith, ints))

-- a time over a denominator
pub over_low : (time den : ℤ) → negsuc 99999999999999999999999 ≤ℤ time → pos 1 ≤ℤ den → den ≤ℤ pos 100000 → negsuc 9999999999999999999999999999 ≤ℤ (time *ℤ den)
over_low time (pos n) low some most = let h = times-mono (negsuc 99999999999999999999999) time n low in omega (arith, ints)
over_low time (negsuc n) low some most = absurd (omega (arith, ints))

pub over_high : (time den : ℤ) → time ≤ℤ pos 100000000000000000000000 → pos 1 ≤ℤ den → den ≤ℤ pos 100000 → (time *ℤ den) ≤ℤ pos 10000000000000000000000000000
over_high time (pos n) high some most = let h = times-mono time (pos 100000000000000000000000) n high in omega (arith, ints)
over_high time (negsuc n) high some most = absurd (omega (arith, ints))

-- so many steps
pub steps_low : (count : ℕ) (step : ℤ) → pos 1 ≤ℤ step → pos 0 ≤ℤ (pos count *ℤ step)
steps_low count (pos n) low = omega (arith, ints)
steps_low count (negsuc n) low = absurd (omega (arith, ints))

pub steps_high : (count : ℕ) (step : ℤ) → count ≤ 1000 → pos 1 ≤ℤ step → step ≤ℤ pos 10000000000000000000 → (pos count *ℤ step) ≤ℤ pos 10000000000000000000000
steps_high count (pos n) few low most =
    let greatest : pos count ≤ℤ pos 1000 = omega (arith, ints) in
    let h = times-mono (pos count) (pos 1000) n greatest in
    omega (arith, ints)
steps_high count (negsuc n) few low most = absurd (omega (arith, ints))
