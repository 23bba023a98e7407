use Rattle.std.proofs.Common.{◌≡◌, ℤ, pos, ◌+ℤ◌, ◌-ℤ◌, ◌*ℤ◌, to_z, of_z, w64, ap, ◌∙◌, arith}
use Rattle.std.specs.Int.{w128}
use Rattle.std.proofs.lemmas.Int.{ints, clamps, to_z-of_z}
use Rattle.mintc_timing.specs.Clocking.{start_of}
use Rattle.mintcx_reports.proofs.told.starts_in.Goals as goal

pub returns-clause-value : goal.returns-clause-value
returns-clause-value c =
    let s = c.args.told.now.schedule.now in
    let cycle : to_z w64 (of_z w64 s.cycle) ≡ s.cycle = to_z-of_z w64 s.cycle (omega (arith, ints, clamps, c.requires.timed.in_range.cycle.0, c.requires.timed.in_range.cycle.1)) in
    let turns : c.turns.result ≡ (pos c.args.cycle -ℤ pos 1) *ℤ s.cycle = rw cycle at c.turns.ensures.value in
    let both : to_z w128 (of_z w128 (to_z w128 (of_z w128 c.from.result) +ℤ to_z w128 (of_z w128 c.turns.result))) ≡ c.start_at.result +ℤ c.turns.result =
    omega (arith, ints, clamps, c.from.ensures, c.start_at.ensures.range.0, c.start_at.ensures.range.1, c.turns.ensures.low, c.turns.ensures.high) in
    both ∙ ap (λ (z : ℤ). z +ℤ c.turns.result) c.start_at.ensures.value ∙ ap (λ (z : ℤ). start_of s c.args.phase +ℤ z) turns

pub returns-clause-low : goal.returns-clause-low
returns-clause-low c = omega (arith, ints, clamps, c.from.ensures, c.start_at.ensures.range.0, c.start_at.ensures.range.1, c.turns.ensures.low, c.turns.ensures.high)

pub returns-clause-high : goal.returns-clause-high
returns-clause-high c = omega (arith, ints, clamps, c.from.ensures, c.start_at.ensures.range.0, c.start_at.ensures.range.1, c.turns.ensures.low, c.turns.ensures.high)
