use Rattle.std.proofs.Common.{◌++◌, ℤ, ap, ◌∙◌, w64}
use Rattle.std.proofs.lemmas.Int.{to_z-of_z}
use Rattle.std.proofs.lemmas.Result.{on_ok_weaker}
use Rattle.mintcx_sdc.specs.Times.{ports_text, time_text}
use Rattle.mintcx_sdc.proofs.WrittenLaws.{in_three}
use Rattle.mintcx_sdc.proofs.delays.put_at.Goals as goal

pub returns : goal.returns
returns c =
    let time = to_z-of_z w64 c.args.time c.ranges.time in
    on_ok_weaker c.put_ports.result
    (λ e. in_three c.args.lines.now c.put.new.self c.put_time.new.lines c.put_ports.new.lines c.args.kind.now (time_text c.args.time) (ports_text c.args.port.now)
    c.in_ok-put.ensures.ok (c.in_ok-put_time.ensures ∙ ap (λ (x : ℤ). c.put.new.self ++ time_text x) time) e)
    c.put_ports.ensures
