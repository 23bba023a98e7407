use Rattle.std.proofs.Common.{◌++◌, ◌+◌, ◌∙◌, ap, arith}
use Rattle.mintcx_warnings_files.specs.Written.{IsOfPhase}
use Rattle.mintcx_warnings_files.proofs.TextLaws.{no_texts, text_more}
use Rattle.mintcx_warnings_files.proofs.late.late_texts.Goals as goal

pub loop-at-init : goal.loop-at-init
loop-at-init c = no_texts (IsOfPhase c.args.clock.now c.args.parts.now) 1 c.new-lines.result c.new-lines.ensures

pub loop-at-preserved : goal.loop-at-preserved
loop-at-preserved c =
    text_more (IsOfPhase c.args.clock.now c.args.parts.now) 1 c.loop-at.at (c.loop-at.at + 1) c.loop-at.lines c.in_ok-phase_text.field-0 c.put.new.self c.loop-at.invariant (omega arith) c.in_ok-phase_text.ensures
    (c.in_ok-put.ensures.ok ∙ ap (λ v. c.loop-at.lines ++ v) c.items.ensures)
