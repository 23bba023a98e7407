use Rattle.std.proofs.Common.{◌≡◌, ℤ, pos, ◌-ℤ◌, ap, ◌∙◌, arith}
use Rattle.std.specs.Prelude.{neg_ℤ}
use Rattle.std.proofs.lemmas.Int.{ints}
use Rattle.mintc_timing.specs.declared.clocking.Schedule.{Schedule}
use Rattle.mintc_timing.specs.Clocking.{shift_of}
use Rattle.mintc_timing.specs.Design.{pair_at, phase_of}
use Rattle.mintcx_judgements.proofs.WideLaws.{wide}
use Rattle.mintcx_judgements.proofs.data.given.Goals as goal

pub returns-clause-value : goal.returns-clause-value
returns-clause-value c =
    let t = c.args.told.now.system.now in
    let s = c.args.told.now.schedule.now in
    let n = c.args.pair in
    let range = c.shift.ensures.range in
    let from : c.element.result.now.phase ≡ phase_of t.flat (pair_at t n).from = ap (λ e. e.phase) c.element.ensures.value ∙ ap (λ p. phase_of t.flat p.from) c.pair-joined.ensures.value in
    let to : c.element-2.result.now.phase ≡ phase_of t.flat (pair_at t n).to = ap (λ e. e.phase) c.element-2.ensures.value ∙ ap (λ p. phase_of t.flat p.to) c.pair-joined.ensures.value in
    let turned : wide (pos 0 -ℤ wide c.from.result) ≡ neg_ℤ c.shift.result = omega (arith, ints, c.from.ensures) in
    turned ∙ ap neg_ℤ c.shift.ensures.value ∙ ap (λ (v : Schedule). neg_ℤ (shift_of v c.element.result.now.phase c.element-2.result.now.phase)) c.schedule.ensures.value
    ∙ ap (λ i. neg_ℤ (shift_of s i c.element-2.result.now.phase)) from
    ∙ ap (λ j. neg_ℤ (shift_of s (phase_of t.flat (pair_at t n).from) j)) to
