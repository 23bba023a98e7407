use Rattle.std.proofs.Common.{◌≡◌, ◌∙◌, ap, sym, refl}
use Rattle.mintc_timing.specs.Design.{phase_of}
use Rattle.mintcx_judgements.specs.Rules.{wider_of}
use Rattle.mintcx_judgements.proofs.WidestLaws.{widest_here, widest_there}
use Rattle.mintcx_judgements.proofs.widest.widest_on.Goals as goal
use Rattle.mintcx_judgements.proofs.widest.widest_on.Goals.{then-element-phase, else-element-phase}

pub loop-number-preserved : goal.loop-number-preserved
loop-number-preserved c =
    let design = c.args.told.now.system.now.flat in
    let k = c.loop-number.number in
    let phase : c.element.result.now.phase ≡ phase_of design k = ap (λ e. e.phase) c.element.ensures.value in
    elim c.if-element-phase.branch [
      | then-element-phase w ↦ record {
        value =
            w.best-is ∙ w.wider-best.ensures.value ∙ ap (λ o. wider_of design o k) c.loop-number.invariant.value
            ∙ sym (widest_here design c.args.phase k _ refl (sym phase ∙ w.if-element-phase.true));
        inside = rw w.best-is w.wider-best.ensures.inside;
      }
      | else-element-phase w ↦ record {
        value =
            w.best-is ∙ c.loop-number.invariant.value
            ∙ sym (widest_there design c.args.phase k _ refl (λ e. w.if-element-phase.false (phase ∙ e)));
        inside = rw w.best-is c.loop-number.invariant.inside;
      }
    ]
