use Rattle.std.proofs.Common.{◌++◌, ◌∷◌, [], List, ℕ, take, map, length, codes, ap, ◌∙◌, sym}
use Rattle.std.proofs.lemmas.List.{take_more}
use Rattle.mintc_text.specs.Lines.{ended, text_of}
use Rattle.mintc_timing_text.specs.LineForms.{count_line}
use Rattle.mintcx_tables.specs.Lines.{phase_line}
use Rattle.mintcx_tables.proofs.PieceLaws.{item_more}
use Rattle.mintcx_tables.proofs.parts.put_phases.Goals as goal

pub loop-phase-preserved : goal.loop-phase-preserved
loop-phase-preserved c =
    let phases = c.args.phases.now in
    let i = c.loop-phase.phase-index in
    let this = c.phase-item.result in
    let first = count_line (codes "phases") (length phases) in
    item_more phase_line c.args.lines.now c.loop-phase.lines c.put_phase.new.lines first (take i phases) this c.loop-phase.invariant
    (c.in_ok-put_phase.ensures ∙ ap (λ (name : List ℕ). c.loop-phase.lines ++ ended (phase_line name)) c.bytes.ensures)
    ∙ ap (λ (v : List (List ℕ)). c.args.lines.now ++ text_of (first ∷ map phase_line v))
    (ap (λ (v : List ℕ). take i phases ++ v ∷ []) c.phase-item.is ∙ sym (take_more phases i this c.loop-phase-test.true))
