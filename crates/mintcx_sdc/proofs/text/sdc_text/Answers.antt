use Rattle.std.proofs.Common.{◌≡◌, ◌++◌, List, ℤ, length, ap, ◌∙◌, arith, w64, to_z, of_z}
use Rattle.std.specs.Prelude.{flat_map}
use Rattle.std.specs.List.{range_with_len}
use Rattle.std.proofs.lemmas.Int.{clamps, ints, to_z-of_z}
use Rattle.mintc_text.specs.Lines.{ended, text_of}
use Rattle.mintc_clock.specs.declared.clock.Listed.{Listed}
use Rattle.mintc_clock.specs.declared.clock.PhaseDef.{PhaseDef}
use Rattle.mintcx_sdc.specs.Clocks.{clock_lines}
use Rattle.mintcx_sdc.specs.Delays.{input_lines, output_lines}
use Rattle.mintcx_sdc.specs.Texts.{fixed_lines, title_line}
use Rattle.mintcx_sdc.proofs.ObstacleLaws.{some_cycle}
use Rattle.mintcx_sdc.proofs.WrittenLaws.{whole}
use Rattle.mintcx_sdc.proofs.text.sdc_text.Goals as goal

pub put_phases-requires-clause-some : goal.put_phases-requires-clause-some
put_phases-requires-clause-some c = some_cycle c.args.clock.now c.args.schedule.now c.requires.in_range.cycle.0 c.requires.sayable

pub returns : goal.returns
returns c =
    let clock = c.args.clock.now in
    let s = c.args.schedule.now in
    let titles = c.args.titles.now in
    let range = c.requires.in_range.cycle in
    let cycle : to_z w64 (of_z w64 s.cycle) ≡ s.cycle = to_z-of_z w64 s.cycle (omega (arith, ints, clamps, range.0, range.1)) in
    c.new.ensures ∙ c.into_bytes.ensures
    ∙ whole c.new-lines.result c.put_title.new.lines c.put_fixed.new.lines c.put_phases.new.lines c.put_inputs.new.lines c.put_outputs.new.lines
    (title_line titles s.cycle) fixed_lines (flat_map (clock_lines clock.phases s) (range_with_len 0 (length clock.phases)))
    (flat_map (input_lines clock.phases) clock.inputs) (flat_map (output_lines clock.phases) clock.outputs)
    c.new-lines.ensures
    (c.in_ok-put_title.ensures ∙ ap (λ (x : ℤ). c.new-lines.result ++ ended (title_line titles x)) cycle)
    c.in_ok-put_fixed.ensures
    (c.in_ok-put_phases.ensures ∙ ap (λ (v : List PhaseDef). c.put_fixed.new.lines ++ text_of (flat_map (clock_lines v s) (range_with_len 0 (length v)))) c.items-phases.ensures)
    (c.in_ok-put_inputs.ensures ∙ ap (λ (v : List PhaseDef). c.put_phases.new.lines ++ text_of (flat_map (input_lines v) c.items.result.now)) c.items-phases.ensures
    ∙ ap (λ (v : List Listed). c.put_phases.new.lines ++ text_of (flat_map (input_lines clock.phases) v)) c.items.ensures)
    (c.in_ok-put_outputs.ensures ∙ ap (λ (v : List PhaseDef). c.put_inputs.new.lines ++ text_of (flat_map (output_lines v) c.items-2.result.now)) c.items-phases.ensures
    ∙ ap (λ (v : List Listed). c.put_inputs.new.lines ++ text_of (flat_map (output_lines clock.phases) v)) c.items-2.ensures)
