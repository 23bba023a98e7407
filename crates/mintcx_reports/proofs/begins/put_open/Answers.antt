use Rattle.std.proofs.Common.{◌≡◌, ◌++◌, ℤ, ◌+ℤ◌, to_z, of_z, ap, ◌∙◌, arith}
use Rattle.std.specs.Prelude.{codes}
use Rattle.std.specs.Int.{w128}
use Rattle.std.proofs.lemmas.Int.{ints, to_z-of_z}
use Rattle.std.proofs.lemmas.Result.{on_ok_weaker}
use Rattle.mintc_timing.specs.Clocking.{width_of}
use Rattle.mintcx_reports.specs.Begins.{moment_text, starts_in}
use Rattle.mintcx_reports.proofs.WrittenLaws.{of_four}
use Rattle.mintcx_reports.proofs.begins.put_open.Goals as goal

pub returns : goal.returns
returns c =
    let s = c.args.told.now.schedule.now in
    let unit = c.args.told.now.unit in
    let low = c.starts_in.ensures.low in
    let high = c.starts_in.ensures.high in
    let least = c.ends_in.ensures.low in
    let most = c.ends_in.ensures.high in
    let starts : to_z w128 (of_z w128 c.starts_in.result) ≡ c.starts_in.result = to_z-of_z w128 c.starts_in.result (omega (arith, ints)) in
    let ends : to_z w128 (of_z w128 c.ends_in.result) ≡ c.ends_in.result = to_z-of_z w128 c.ends_in.result (omega (arith, ints)) in
    on_ok_weaker c.put_moment-2.result
    (λ e. of_four c.args.lines.now c.put.new.self c.put_moment.new.lines c.put-2.new.self c.put_moment-2.new.lines
    (codes ", open from ") (moment_text unit s (starts_in s c.args.phase c.args.cycle)) (codes " to ")
    (moment_text unit s (starts_in s c.args.phase c.args.cycle +ℤ width_of s c.args.phase))
    c.in_ok-put.ensures.ok
    (c.in_ok-put_moment.ensures ∙ ap (λ (t : ℤ). c.put.new.self ++ moment_text unit s t) (starts ∙ c.starts_in.ensures.value))
    c.in_ok-put-2.ensures.ok
    (e ∙ ap (λ (t : ℤ). c.put-2.new.self ++ moment_text unit s t) (ends ∙ c.ends_in.ensures.value)))
    c.put_moment-2.ensures
