use Rattle.std.proofs.Common.{◌++◌, ◌∷◌, [], List, take, ap, ◌∙◌, sym}
use Rattle.std.specs.Prelude.{flat_map}
use Rattle.std.proofs.lemmas.List.{take_more}
use Rattle.mintc_text.specs.Lines.{text_of}
use Rattle.mintc_clock.specs.declared.clock.Listed.{Listed}
use Rattle.mintcx_sdc.specs.Delays.{output_lines}
use Rattle.mintcx_sdc.proofs.WrittenLaws.{item_more}
use Rattle.mintcx_sdc.proofs.text.put_outputs.Goals as goal

pub loop-output-preserved : goal.loop-output-preserved
loop-output-preserved c =
    let lines = output_lines c.args.phases.now in
    let list = c.args.outputs.now in
    let i = c.loop-output.output-index in
    let this = c.output-item.result in
    item_more lines c.args.lines.now c.loop-output.lines c.put_output.new.lines (take i list) this c.loop-output.invariant c.in_ok-put_output.ensures
    ∙ ap (λ (v : List Listed). c.args.lines.now ++ text_of (flat_map lines v))
    (ap (λ (v : Listed). take i list ++ v ∷ []) c.output-item.is ∙ sym (take_more list i this c.loop-output-test.true))
