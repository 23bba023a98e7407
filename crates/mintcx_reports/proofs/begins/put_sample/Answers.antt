use Rattle.std.proofs.Common.{◌≡◌, ◌++◌, ℤ, to_z, of_z, ap, ◌∙◌, arith}
use Rattle.std.specs.Prelude.{codes}
use Rattle.std.specs.Int.{w128}
use Rattle.std.proofs.lemmas.Int.{ints, to_z-of_z}
use Rattle.std.proofs.lemmas.Result.{on_ok_weaker}
use Rattle.mintcx_reports.specs.Begins.{moment_text, starts_in}
use Rattle.mintcx_reports.proofs.WrittenLaws.{appended}
use Rattle.mintcx_reports.proofs.begins.put_sample.Goals as goal

pub returns : goal.returns
returns c =
    let s = c.args.told.now.schedule.now in
    let unit = c.args.told.now.unit in
    let low = c.starts_in.ensures.low in
    let high = c.starts_in.ensures.high in
    let read : to_z w128 (of_z w128 c.starts_in.result) ≡ c.starts_in.result = to_z-of_z w128 c.starts_in.result (omega (arith, ints)) in
    on_ok_weaker c.put_moment.result
    (λ e. appended c.args.lines.now c.put.new.self c.put_moment.new.lines (codes ", samples at ") (moment_text unit s (starts_in s c.args.phase c.args.cycle)) c.in_ok-put.ensures.ok
    (e ∙ ap (λ (t : ℤ). c.put.new.self ++ moment_text unit s t) (read ∙ c.starts_in.ensures.value)))
    c.put_moment.ensures
