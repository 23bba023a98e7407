use Rattle.std.proofs.Common.{◌≡◌, ◌+ℤ◌, ◌-ℤ◌, ◌*ℤ◌, pos, arith, ap, ◌∙◌}
use Rattle.std.proofs.lemmas.Int.{ints}
use Rattle.mintc_timing.specs.Clocking.{time_of}
use Rattle.mintc_timing.proofs.SharedFitting.{read_time, IsTime-IsGap, IsTime-IsDenominator}
use Rattle.mintc_timing_links.proofs.excess.bound_excess.Goals as goal

pub overflow_sub-earliest : goal.overflow_sub-earliest
overflow_sub-earliest c = let a = c.time.ensures.range in let b = c.times_denominator-gap.ensures.range in let d = c.time_of_cycles.ensures.range in omega (arith, ints)

pub overflow_sub-result : goal.overflow_sub-result
overflow_sub-result c = let a = c.time.ensures.range in let b = c.times_denominator-gap.ensures.range in let d = c.time_of_cycles.ensures.range in let e = c.time-2.ensures.range in omega (arith, ints)

pub returns-clause-value : goal.returns-clause-value
returns-clause-value c =
    let s = c.args.schedule.now in
    let b = c.args.bound.now in
    let gap : c.times_denominator-gap.result ≡ b.gap *ℤ s.den =
    rw (read_time b.gap (IsTime-IsGap _ c.requires.bound.gap), read_time s.den (IsTime-IsDenominator _ c.requires.in_range.den)) at c.times_denominator-gap.ensures.value in
    let is : c.time.result +ℤ c.times_denominator-gap.result -ℤ c.time_of_cycles.result -ℤ c.time-2.result ≡ time_of s b.from +ℤ b.gap *ℤ s.den -ℤ pos b.cycles *ℤ s.cycle -ℤ time_of s b.to =
    ap (λ z. z +ℤ c.times_denominator-gap.result -ℤ c.time_of_cycles.result -ℤ c.time-2.result) c.time.ensures.value
    ∙ ap (λ z. time_of s b.from +ℤ z -ℤ c.time_of_cycles.result -ℤ c.time-2.result) gap
    ∙ ap (λ z. time_of s b.from +ℤ b.gap *ℤ s.den -ℤ z -ℤ c.time-2.result) c.time_of_cycles.ensures.value
    ∙ ap (λ z. time_of s b.from +ℤ b.gap *ℤ s.den -ℤ pos b.cycles *ℤ s.cycle -ℤ z) c.time-2.ensures.value in
    let p = c.time.ensures.range in
    let q = c.times_denominator-gap.ensures.range in
    let r = c.time_of_cycles.ensures.range in
    let w = c.time-2.ensures.range in
    rw (← is) (omega (arith, ints))

pub returns-clause-range : goal.returns-clause-range
returns-clause-range c =
    let a = c.time.ensures.range in
    let b = c.times_denominator-gap.ensures.range in
    let d = c.time_of_cycles.ensures.range in
    let e = c.time-2.ensures.range in
    (omega (arith, ints), omega (arith, ints))
