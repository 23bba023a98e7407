use Rattle.std.proofs.Common.{◌≡◌, ◌++◌, ℤ, ap, ◌∙◌, arith, w64, to_z, of_z}
use Rattle.std.proofs.lemmas.Int.{clamps, ints, to_z-of_z}
use Rattle.std.proofs.lemmas.Result.{on_ok_weaker}
use Rattle.mintc_text.specs.Lines.{ended}
use Rattle.mintcx_sdc.specs.Clocks.{clock_line, rise_of}
use Rattle.mintcx_sdc.proofs.clocks.put_own.Goals as goal

pub returns : goal.returns
returns c =
    let s = c.args.schedule.now in
    let at = c.args.at in
    let phase = c.args.phase.now in
    let old = c.args.lines.now in
    let range = c.requires.in_range.cycle in
    let above = c.rise_of-rise.ensures.range in
    let low = c.fall_of-fall.ensures.low in
    let high = c.fall_of-fall.ensures.high in
    let cycle : to_z w64 (of_z w64 s.cycle) ≡ s.cycle = to_z-of_z w64 s.cycle (omega (arith, ints, clamps, range.0, range.1)) in
    let rise : to_z w64 (of_z w64 c.rise_of-rise.result) ≡ c.rise_of-rise.result = to_z-of_z w64 c.rise_of-rise.result (omega (arith, ints, clamps, above.0, above.1)) in
    let fall : to_z w64 (of_z w64 c.fall_of-fall.result) ≡ c.fall_of-fall.result = to_z-of_z w64 c.fall_of-fall.result (omega (arith, ints, clamps)) in
    on_ok_weaker c.put_line.result
    (λ (e : c.put_line.new.lines ≡ old ++ ended (clock_line phase (to_z w64 (of_z w64 s.cycle)) (to_z w64 (of_z w64 c.rise_of-rise.result)) (to_z w64 (of_z w64 c.fall_of-fall.result)))). e
    ∙ ap (λ (x : ℤ). old ++ ended (clock_line phase x (to_z w64 (of_z w64 c.rise_of-rise.result)) (to_z w64 (of_z w64 c.fall_of-fall.result)))) cycle
    ∙ ap (λ (x : ℤ). old ++ ended (clock_line phase s.cycle x (to_z w64 (of_z w64 c.fall_of-fall.result)))) (rise ∙ c.rise_of-rise.ensures.value)
    ∙ ap (λ (x : ℤ). old ++ ended (clock_line phase s.cycle (rise_of s phase.high at) x)) (fall ∙ c.fall_of-fall.ensures.value))
    c.put_line.ensures
