use Rattle.std.proofs.Common.{◌≡◌, ap, ◌∙◌}
use Rattle.mintc_timing.specs.Clocking.{shift_of}
use Rattle.mintc_timing.specs.Design.{pair_at, phase_of}
use Rattle.mintc_timing.proofs.SharedFitting.{IsTime-IsModest, read_time}
use Rattle.mintcx_verdicts.proofs.arrivals.turned.Goals as goal

pub returns-clause-value : goal.returns-clause-value
returns-clause-value c =
    let t = c.args.told.now.system.now in
    let s = c.args.told.now.schedule.now in
    let n = c.args.pair in
    let from : c.element.result.now.phase ≡ phase_of t.flat (pair_at t n).from = ap (λ e. e.phase) c.element.ensures.value ∙ ap (λ p. phase_of t.flat p.from) c.pair-joined.ensures.value in
    let to : c.element-2.result.now.phase ≡ phase_of t.flat (pair_at t n).to = ap (λ e. e.phase) c.element-2.ensures.value ∙ ap (λ p. phase_of t.flat p.to) c.pair-joined.ensures.value in
    read_time c.shift.result (IsTime-IsModest c.shift.result c.shift.ensures.range) ∙ c.shift.ensures.value ∙ ap (λ i. shift_of s i c.element-2.result.now.phase) from ∙ ap (λ j. shift_of s (phase_of t.flat (pair_at t n).from) j) to
