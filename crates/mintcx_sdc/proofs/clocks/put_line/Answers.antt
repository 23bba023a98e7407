use Rattle.std.proofs.Common.{◌++◌, ◌∷◌, [], List, ℕ, ℤ, ap, ◌∙◌, w64, to_z, of_z}
use Rattle.std.specs.Prelude.{codes}
use Rattle.std.proofs.lemmas.Int.{to_z-of_z}
use Rattle.std.proofs.lemmas.Result.{on_ok_weaker}
use Rattle.mintcx_sdc.specs.Clocks.{clock_text, wave_text}
use Rattle.mintcx_sdc.specs.Times.{ports_text}
use Rattle.mintcx_sdc.proofs.WrittenLaws.{in_five}
use Rattle.mintcx_sdc.proofs.clocks.put_line.Goals as goal

pub returns : goal.returns
returns c =
    let phase = c.args.phase.now in
    let cycle = to_z-of_z w64 c.args.cycle c.ranges.cycle in
    let rise = to_z-of_z w64 c.args.rise c.ranges.rise in
    let fall = to_z-of_z w64 c.args.fall c.ranges.fall in
    on_ok_weaker c.put-2.result
    (λ e. in_five c.args.lines.now c.put_clock.new.lines c.put_wave.new.lines c.put.new.self c.put_ports.new.lines c.put-2.new.self
    (clock_text phase.name c.args.cycle) (wave_text c.args.rise c.args.fall) (codes "}") (ports_text phase.port) (10 ∷ [])
    (c.in_ok-put_clock.ensures ∙ ap (λ (x : ℤ). c.args.lines.now ++ clock_text c.bytes.result.now x) cycle
    ∙ ap (λ (name : List ℕ). c.args.lines.now ++ clock_text name c.args.cycle) c.bytes.ensures)
    (c.in_ok-put_wave.ensures ∙ ap (λ (x : ℤ). c.put_clock.new.lines ++ wave_text x (to_z w64 (of_z w64 c.args.fall))) rise
    ∙ ap (λ (x : ℤ). c.put_clock.new.lines ++ wave_text c.args.rise x) fall)
    c.in_ok-put.ensures.ok
    (c.in_ok-put_ports.ensures ∙ ap (λ (port : List ℕ). c.put.new.self ++ ports_text port) c.bytes-2.ensures)
    e)
    c.put-2.ensures.ok
