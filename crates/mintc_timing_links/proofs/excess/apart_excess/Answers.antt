use Rattle.std.proofs.Common.{◌≡◌, ◌+ℤ◌, ◌-ℤ◌, ◌*ℤ◌, pos, arith, ap, ◌∙◌}
use Rattle.std.proofs.lemmas.Int.{ints}
use Rattle.mintc_timing.specs.Clocking.{start_of, end_of, crosses_of}
use Rattle.mintc_timing_links.proofs.excess.apart_excess.Goals as goal

pub returns-clause-value : goal.returns-clause-value
returns-clause-value c =
    let s = c.args.schedule.now in
    let i = c.args.i in
    let j = c.args.j in
    let off = c.time_of_cycles.ensures.value ∙ ap (λ n. pos n *ℤ s.cycle) c.crosses.ensures in
    let is : c.start.result +ℤ c.width.result -ℤ c.time_of_cycles.result -ℤ c.start-2.result ≡ end_of s j -ℤ pos (crosses_of j i) *ℤ s.cycle -ℤ start_of s i =
    ap (λ z. z +ℤ c.width.result -ℤ c.time_of_cycles.result -ℤ c.start-2.result) c.start.ensures.value
    ∙ ap (λ z. start_of s j +ℤ z -ℤ c.time_of_cycles.result -ℤ c.start-2.result) c.width.ensures.value
    ∙ ap (λ z. end_of s j -ℤ z -ℤ c.start-2.result) off
    ∙ ap (λ z. end_of s j -ℤ pos (crosses_of j i) *ℤ s.cycle -ℤ z) c.start-2.ensures.value in
    let a = c.start.ensures.range in
    let b = c.width.ensures.range in
    let d = c.time_of_cycles.ensures.range in
    let e = c.start-2.ensures.range in
    rw (← is) (omega (arith, ints))

pub returns-clause-range : goal.returns-clause-range
returns-clause-range c =
    let a = c.start.ensures.range in
    let b = c.width.ensures.range in
    let d = c.time_of_cycles.ensures.range in
    let e = c.start-2.ensures.range in
    (omega (arith, ints), omega (arith, ints))
