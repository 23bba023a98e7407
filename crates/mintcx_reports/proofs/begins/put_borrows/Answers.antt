use Rattle.std.proofs.Common.{◌≡◌, ◌++◌, ℤ, to_z, of_z, ap, ◌∙◌, arith}
use Rattle.std.specs.Prelude.{codes}
use Rattle.std.specs.Int.{w128}
use Rattle.std.proofs.lemmas.Int.{ints}
use Rattle.std.proofs.lemmas.Result.{on_ok_weaker}
use Rattle.mintcx_reports.specs.Begins.{moment_text}
use Rattle.mintcx_reports.proofs.WrittenLaws.{appended}
use Rattle.mintcx_reports.proofs.begins.put_borrows.Goals as goal

pub returns : goal.returns
returns c =
    let s = c.args.told.now.schedule.now in
    let unit = c.args.told.now.unit in
    let read : to_z w128 (of_z w128 c.from.result) ≡ c.args.time = omega (arith, ints, c.from.ensures, c.ranges.time.sfits) in
    on_ok_weaker c.put_moment.result
    (λ e. appended c.args.lines.now c.put.new.self c.put_moment.new.lines (codes ", borrows ") (moment_text unit s c.args.time) c.in_ok-put.ensures.ok
    (e ∙ ap (λ (t : ℤ). c.put.new.self ++ moment_text unit s t) read))
    c.put_moment.ensures
