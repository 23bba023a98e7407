use Rattle.std.proofs.Common.{◌++◌, ℤ, ap, ◌∙◌, w64}
use Rattle.std.specs.Prelude.{codes}
use Rattle.std.proofs.lemmas.Int.{to_z-of_z}
use Rattle.std.proofs.lemmas.Result.{on_ok_weaker}
use Rattle.mintcx_sdc.specs.Times.{time_text}
use Rattle.mintcx_sdc.proofs.WrittenLaws.{in_four}
use Rattle.mintcx_sdc.proofs.clocks.put_wave.Goals as goal

pub returns : goal.returns
returns c =
    let rise = to_z-of_z w64 c.args.rise c.ranges.rise in
    let fall = to_z-of_z w64 c.args.fall c.ranges.fall in
    on_ok_weaker c.put_time-2.result
    (λ e. in_four c.args.lines.now c.put.new.self c.put_time.new.lines c.put-2.new.self c.put_time-2.new.lines
    (codes " -waveform {") (time_text c.args.rise) (codes " ") (time_text c.args.fall)
    c.in_ok-put.ensures.ok
    (c.in_ok-put_time.ensures ∙ ap (λ (x : ℤ). c.put.new.self ++ time_text x) rise)
    c.in_ok-put-2.ensures.ok
    (e ∙ ap (λ (x : ℤ). c.put-2.new.self ++ time_text x) fall))
    c.put_time-2.ensures
