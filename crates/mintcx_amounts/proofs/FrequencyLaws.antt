-- What is shown of a frequency.
use Rattle.std.proofs.Common.{ℕ, ◌+◌, ◌*◌, ◌/◌, ◌^◌, ◌<◌, ◌≤◌, ℤ, pos, negsuc, ◌≤ℤ◌, Bool, true, false, if◌then◌else◌, arith, lit<}
use Rattle.std.specs.Prelude.{nat_lt}
use Rattle.std.proofs.lemmas.Int.{ints}
use Rattle.std.proofs.Math.Nat.{mul-le-mul_right, div-mul-le_self, lt-div-mul-add}
use Rattle.mintc_fraction.specs.Ratio.{over, IsAtMost, IsBelow}
use Rattle.mintcx_amounts.specs.declared.frequency.Frequency.{Frequency}
use Rattle.mintcx_amounts.specs.declared.frequency.Band.TheVariants.{Mega, Giga, Tera}
use Rattle.mintcx_amounts.specs.Frequencies.{hertz, frequency_of, true_frequency}
use Rattle.mintcx_amounts.specs.Laws.{FrequenciesAreBelow}

-- a frequency of t thousandths of k megahertz each, where x / n thousandths of a megahertz are shown
pub record IsUnder (x n t k : ℕ) : Type 0 where
  pub low : t * (k * 1000) * n ≤ x * 1000
  pub high : x * 1000 < (t + 1) * (k * 1000) * n

under_by : (x n mega t k : ℕ) → mega * n ≤ x → x < mega * n + n → t * k ≤ mega → mega < t * k + k → IsUnder x n t k
under_by x n mega t k below above low high =
    let next : mega + 1 ≤ t * k + k = omega arith in
    let a = mul-le-mul_right n low in
    let b = mul-le-mul_right n next in
    record { low = omega (arith, a); high = omega (arith, b) }

pub record IsShownOf (x n : ℕ) (f : Frequency) : Type 0 where
  pub low : f.thousandths * hertz f.band * n ≤ x * 1000
  pub high : x * 1000 < (f.thousandths + 1) * hertz f.band * n

chosen : (x n mega : ℕ) (b c : Bool) → mega * n ≤ x → x < mega * n + n →
    IsShownOf x n (if b then record { thousandths = mega; band = Mega } else if c then record { thousandths = mega / 1000; band = Giga } else record { thousandths = mega / 1000 / 1000; band = Tera })
chosen x n mega true c below above =
    let u = under_by x n mega mega 1 below above (omega arith) (omega arith) in
    record { low = u.low; high = u.high }
chosen x n mega false true below above =
    let u = under_by x n mega (mega / 1000) 1000 below above (div-mul-le_self mega 1000) (lt-div-mul-add (lit< tt)) in
    record { low = u.low; high = u.high }
chosen x n mega false false below above =
    let first = div-mul-le_self mega 1000 in
    let second = div-mul-le_self (mega / 1000) 1000 in
    let third : mega < mega / 1000 * 1000 + 1000 = lt-div-mul-add (lit< tt) in
    let fourth : mega / 1000 < mega / 1000 / 1000 * 1000 + 1000 = lt-div-mul-add (lit< tt) in
    let u = under_by x n mega (mega / 1000 / 1000) 1000000 below above (omega (arith, first, second)) (omega (arith, third, fourth)) in
    record { low = u.low; high = u.high }

shown_by : (n k : ℕ) (f : Frequency) → IsShownOf (k * 10 ^ 12) n f →
    IsAtMost (over (pos (f.thousandths * hertz f.band)) (pos 1)) (true_frequency (over (pos n) (pos k)))
    × IsBelow (true_frequency (over (pos n) (pos k))) (over (pos ((f.thousandths + 1) * hertz f.band)) (pos 1))
shown_by n k f s = (omega (arith, ints, s.low), omega (arith, ints, s.high))

by_parts : (num den : ℤ) → pos 1 ≤ℤ den → pos 1 ≤ℤ num →
    let f = frequency_of (over num den) in
    IsAtMost (over (pos (f.thousandths * hertz f.band)) (pos 1)) (true_frequency (over num den))
    × IsBelow (true_frequency (over num den)) (over (pos ((f.thousandths + 1) * hertz f.band)) (pos 1))
by_parts (pos n) (pos k) positive some =
    let x = k * 10 ^ 12 in
    let mega = x / n in
    let any : 0 < n = omega (arith, ints) in
    shown_by n k _ (chosen x n mega (nat_lt mega 10000000) (nat_lt (mega / 1000) 10000000) (div-mul-le_self x n) (lt-div-mul-add any))
by_parts (negsuc n) den positive some = absurd (omega (arith, ints))
by_parts (pos n) (negsuc k) positive some = absurd (omega (arith, ints))

pub frequencies_are_below : FrequenciesAreBelow
frequencies_are_below cycle positive some = by_parts cycle.num cycle.den positive some
