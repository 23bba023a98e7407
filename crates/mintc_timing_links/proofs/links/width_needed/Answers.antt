use Rattle.std.proofs.Common.{◌≡◌, ◌<◌, pos, length, ap, ◌∙◌, sym, arith, ne_eqb, eq-eqb, ◌==◌, get_or, inl, inr}
use Rattle.std.proofs.lemmas.List.{get_or_read}
use Rattle.std.proofs.lemmas.Int.{ints, clamps}
use Rattle.mintc_timing.specs.declared.parts.Element.{Element}
use Rattle.mintc_timing.proofs.SharedExtremesLaws.{greater-turn}
use Rattle.mintc_timing.specs.Design.{no_element}
use Rattle.mintc_timing.specs.Limits.{IsDelay}
use Rattle.mintc_timing_links.proofs.links.width_needed.Goals as goal
use Rattle.mintc_timing_links.proofs.links.width_needed.Goals.{then-element-phase, else-element-phase}

pub loop-element-preserved : goal.loop-element-preserved
loop-element-preserved c =
    let es = c.args.flat.now.elements in
    let n = c.loop-element.element-index in
    let old = c.loop-element.invariant in
    let es_is = c.elements-element-items.ensures.value in
    let h : n < length es = rw es_is at c.loop-element-test.true in
    let here : c.element-item.result ≡ get_or es n no_element = get_or_read es n c.element-item.result h (rw es_is at c.element-item.is) no_element in
    let kept = c.elements-element-items.ensures.kept.each_element n no_element h in
    let wide : IsDelay (get_or es n no_element).width = kept.width in
    let turn = greater-turn (λ (e : Element). e.width) (λ (e : Element). e.phase == c.args.phase) (pos 0) es n no_element in
    let low = old.range in
    elim c.if-element-phase.branch [
      | then-element-phase w ↦
          let e = w.width-is in
          let m = w.max-width.ensures.value in
          let phase_is = ap (λ (e : Element). e.phase) here in
          let width_is = ap (λ (e : Element). e.width) here in
          record {
            is = turn _ _ h old.is (inl (eq-eqb _ _ (sym phase_is ∙ w.if-element-phase.true), omega (arith, ints, clamps)));
            range = (omega (arith, ints, clamps), omega (arith, ints, clamps));
          }
      | else-element-phase w ↦
          let e = w.width-is in
          let phase_is = ap (λ (e : Element). e.phase) here in
          record {
            is = turn _ _ h old.is (inr (ne_eqb _ _ (λ g. w.if-element-phase.false (phase_is ∙ g)), w.width-is));
            range = (omega (arith, ints), omega (arith, ints));
          }
    ]
