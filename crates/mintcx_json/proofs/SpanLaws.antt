-- Spans over a denominator are in the range of their numbers.
use Rattle.std.proofs.Common.{ℤ, pos, negsuc, ◌≤ℤ◌, ◌*ℤ◌, arith}
use Rattle.std.proofs.lemmas.Int.{ints}
use Rattle.mintc_timing.proofs.SharedProducts.{times-mono}

pub span_low : (x den : ℤ) → negsuc 3999999999 ≤ℤ x → pos 1 ≤ℤ den → den ≤ℤ pos 100000 → negsuc 399999999999999 ≤ℤ (x *ℤ den)
span_low x (pos n) low some most = let h = times-mono (negsuc 3999999999) x n low in omega (arith, ints)
span_low x (negsuc n) low some most = absurd (omega (arith, ints))

pub span_high : (x den : ℤ) → x ≤ℤ pos 4000000000 → pos 1 ≤ℤ den → den ≤ℤ pos 100000 → (x *ℤ den) ≤ℤ pos 400000000000000
span_high x (pos n) high some most = let h = times-mono x (pos 4000000000) n high in omega (arith, ints)
span_high x (negsuc n) high some most = absurd (omega (arith, ints))

-- the same of longer numbers
pub long_low : (x den : ℤ) → negsuc 9223372036854775807 ≤ℤ x → pos 1 ≤ℤ den → den ≤ℤ pos 1000000000000 → negsuc 9223372036854775807999999999999 ≤ℤ (x *ℤ den)
long_low x (pos n) low some most = let h = times-mono (negsuc 9223372036854775807) x n low in omega (arith, ints)
long_low x (negsuc n) low some most = absurd (omega (arith, ints))

pub long_high : (x den : ℤ) → x ≤ℤ pos 9223372036854775807 → pos 1 ≤ℤ den → den ≤ℤ pos 1000000000000 → (x *ℤ den) ≤ℤ pos 9223372036854775807000000000000
long_high x (pos n) high some most = let h = times-mono x (pos 9223372036854775807) n high in omega (arith, ints)
long_high x (negsuc n) high some most = absurd (omega (arith, ints))
