use Rattle.std.proofs.Common.{◌≡◌, ◌+ℤ◌, ◌*ℤ◌, arith, to_z, of_z, w64}
use Rattle.std.proofs.lemmas.Int.{ints}
use Rattle.mintc_timing.specs.Clocking.{shift_of}
use Rattle.mintc_departure.proofs.clocked_system.ClockedSystem.early_delay.Goals as goal

pub returns-clause-value : goal.returns-clause-value
returns-clause-value c =
    let s = c.args.self.now.schedule.now in
    let from = c.element-from.result.now in
    let to = c.element-to.result.now in
    let min = c.least_delay.result in
    let sum : to_z w64 (of_z w64 (to_z w64 (of_z w64 from.dq_min) +ℤ to_z w64 (of_z w64 min))) ≡ from.dq_min +ℤ min = omega (arith, ints) in
    let shifted_delay : c.shifted_delay.result ≡ (from.dq_min +ℤ min) *ℤ s.den +ℤ shift_of s from.phase to.phase = rw sum at c.shifted_delay.ensures.value in
    rw (← c.least_delay.ensures.value, ← c.pair-pair.ensures.value, ← c.element-from.ensures.value, ← c.element-to.ensures.value, ← shifted_delay) (omega (arith, ints))
