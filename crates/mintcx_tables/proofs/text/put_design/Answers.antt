use Rattle.std.proofs.Common.{◌≡◌, ◌++◌, List, ℕ, length, codes, ap, ◌∙◌}
use Rattle.std.proofs.lemmas.Result.{on_ok_weaker}
use Rattle.mintc_text.specs.Lines.{ended, text_of}
use Rattle.mintc_timing.specs.declared.parts.Bound.{Bound}
use Rattle.mintc_timing.specs.declared.parts.Element.{Element}
use Rattle.mintc_timing.specs.declared.parts.TimingArc.{TimingArc}
use Rattle.mintc_timing_text.specs.LineForms.{count_line}
use Rattle.mintcx_tables.specs.Lines.{arc_lines, bound_lines, element_lines, phase_lines}
use Rattle.mintcx_tables.proofs.PieceLaws.{whole}
use Rattle.mintcx_tables.proofs.text.put_design.Goals as goal

pub returns : goal.returns
returns c =
    let d = c.args.flat.now in
    let phases = c.items.ensures ∙ c.phases.ensures.value in
    let inner = c.items-2.ensures ∙ c.inner.ensures.value in
    let count : length c.items-2.result.now ≡ length d.inner = ap length inner in
    on_ok_weaker c.put-2.result
    (λ e. whole c.args.lines.now c.put.new.self c.put_phases.new.lines c.put_elements.new.lines c.put_count.new.lines c.put_arcs.new.lines c.put_bounds.new.lines
    c.put-2.new.self (codes "table 3") (count_line (codes "inner") (length d.inner)) (codes "end") (phase_lines d.phases) (element_lines d.elements)
    (arc_lines (length d.elements) d.arcs) (bound_lines d.bounds)
    c.in_ok-put.ensures.ok
    (c.in_ok-put_phases.ensures ∙ ap (λ (v : List (List ℕ)). c.put.new.self ++ text_of (phase_lines v)) phases)
    (c.in_ok-put_elements.ensures ∙ ap (λ (v : List Element). c.put_phases.new.lines ++ text_of (element_lines v)) c.elements.ensures.value)
    (c.in_ok-put_count.ensures ∙ ap (λ (n : ℕ). c.put_elements.new.lines ++ ended (count_line (codes "inner") n)) count)
    (c.in_ok-put_arcs.ensures ∙ ap (λ (n : ℕ). c.put_count.new.lines ++ text_of (arc_lines n c.arcs.result.now)) c.element_count.ensures.value
    ∙ ap (λ (v : List TimingArc). c.put_count.new.lines ++ text_of (arc_lines (length d.elements) v)) c.arcs.ensures.value)
    (c.in_ok-put_bounds.ensures ∙ ap (λ (v : List Bound). c.put_arcs.new.lines ++ text_of (bound_lines v)) c.bounds.ensures.value)
    e)
    c.put-2.ensures.ok
