use Rattle.std.proofs.Common.{◌++◌, ◌∷◌, [], List, take, map, length, codes, ap, ◌∙◌, sym}
use Rattle.std.proofs.lemmas.List.{take_more}
use Rattle.mintc_text.specs.Lines.{text_of}
use Rattle.mintc_timing.specs.declared.parts.Element.{Element}
use Rattle.mintc_timing_text.specs.LineForms.{count_line}
use Rattle.mintcx_tables.specs.Lines.{element_line}
use Rattle.mintcx_tables.proofs.PieceLaws.{item_more}
use Rattle.mintcx_tables.proofs.parts.put_elements.Goals as goal

pub loop-element-preserved : goal.loop-element-preserved
loop-element-preserved c =
    let elements = c.args.elements.now in
    let i = c.loop-element.element-index in
    let this = c.element-item.result in
    let first = count_line (codes "elements") (length elements) in
    item_more element_line c.args.lines.now c.loop-element.lines c.put_element.new.lines first (take i elements) this c.loop-element.invariant c.in_ok-put_element.ensures
    ∙ ap (λ (v : List Element). c.args.lines.now ++ text_of (first ∷ map element_line v))
    (ap (λ (v : Element). take i elements ++ v ∷ []) c.element-item.is ∙ sym (take_more elements i this c.loop-element-test.true))
