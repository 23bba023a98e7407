use Rattle.std.proofs.Common.{◌++◌, ◌∷◌, [], List, take, ap, ◌∙◌, sym}
use Rattle.std.specs.Prelude.{flat_map}
use Rattle.std.proofs.lemmas.List.{take_more}
use Rattle.mintc_text.specs.Lines.{text_of}
use Rattle.mintc_clock.specs.declared.clock.Listed.{Listed}
use Rattle.mintcx_sdc.specs.Delays.{input_lines}
use Rattle.mintcx_sdc.proofs.WrittenLaws.{item_more}
use Rattle.mintcx_sdc.proofs.text.put_inputs.Goals as goal

pub loop-input-preserved : goal.loop-input-preserved
loop-input-preserved c =
    let lines = input_lines c.args.phases.now in
    let list = c.args.inputs.now in
    let i = c.loop-input.input-index in
    let this = c.input-item.result in
    item_more lines c.args.lines.now c.loop-input.lines c.put_input.new.lines (take i list) this c.loop-input.invariant c.in_ok-put_input.ensures
    ∙ ap (λ (v : List Listed). c.args.lines.now ++ text_of (flat_map lines v))
    (ap (λ (v : Listed). take i list ++ v ∷ []) c.input-item.is ∙ sym (take_more list i this c.loop-input-test.true))
