use Rattle.std.proofs.Common.{◌≡◌, ◌++◌, ℤ, pos, ◌*ℤ◌, decimal, to_z, of_z, ap, ◌∙◌, arith}
use Rattle.std.specs.Prelude.{codes}
use Rattle.std.specs.Int.{w64, w128}
use Rattle.std.proofs.lemmas.Int.{ints, clamps, to_z-of_z}
use Rattle.std.proofs.lemmas.Result.{on_ok_weaker}
use Rattle.mintcx_reports.specs.Begins.{moment_text}
use Rattle.mintcx_reports.proofs.WrittenLaws.{of_six}
use Rattle.mintcx_reports.proofs.stages.put_product.Goals as goal

pub returns : goal.returns
returns c =
    let s = c.args.told.now.schedule.now in
    let unit = c.args.told.now.unit in
    let cycles = c.args.cycles in
    let range = c.requires.timed.in_range.cycle in
    let span = c.cycles_time.ensures in
    let cycle : to_z w64 (of_z w64 s.cycle) ≡ s.cycle = to_z-of_z w64 s.cycle (omega (arith, ints, clamps, range.0, range.1)) in
    let time : to_z w128 (of_z w128 c.cycles_time.result) ≡ pos cycles *ℤ s.cycle =
    to_z-of_z w128 c.cycles_time.result (omega (arith, ints, span.range.0, span.range.1)) ∙ span.value ∙ ap (λ (x : ℤ). pos cycles *ℤ x) cycle in
    let one : to_z w128 (of_z w128 c.from.result) ≡ s.cycle = omega (arith, ints, clamps, c.from.ensures, range.0, range.1) in
    on_ok_weaker c.put_moment-2.result
    (λ e. of_six c.args.lines.now c.put.new.self c.put_moment.new.lines c.put-2.new.self c.put_number.new.lines c.put-3.new.self c.put_moment-2.new.lines
    (codes ": ") (moment_text unit s (pos cycles *ℤ s.cycle)) (codes " = ") (decimal cycles) (codes " x ") (moment_text unit s s.cycle)
    c.in_ok-put.ensures.ok
    (c.in_ok-put_moment.ensures ∙ ap (λ (t : ℤ). c.put.new.self ++ moment_text unit s t) time)
    c.in_ok-put-2.ensures.ok c.in_ok-put_number.ensures c.in_ok-put-3.ensures.ok
    (e ∙ ap (λ (t : ℤ). c.put-3.new.self ++ moment_text unit s t) one))
    c.put_moment-2.ensures
