use Rattle.std.proofs.Common.{◌∙◌, ap, sym, ℕ}
use Rattle.mintcx_joint.specs.Shown.{wider}
use Rattle.mintcx_joint.proofs.SharedTurnLaws.{wider_more}
use Rattle.mintcx_joint.proofs.shown.widest_corner.Goals as goal

pub loop-corner-preserved : goal.loop-corner-preserved
loop-corner-preserved c =
    let ts = c.args.systems.now in
    let p = c.args.phase in
    let k = c.loop-corner.corner in
    record {
      is = c.wider-widest.ensures.value ∙ ap (λ (w : ℕ). wider ts p w k) c.loop-corner.invariant.is ∙ sym (wider_more ts p k);
      there = c.wider-widest.ensures.there;
    }
