use Rattle.std.proofs.Common.{List, sym, subst}
use Rattle.mintc_certificate.specs.declared.certificate.Certificate.{Certificate}
use Rattle.mintcx_joint.specs.Alone.{HasAlone}
use Rattle.mintcx_answers.proofs.CornerLaws.{has_alone}
use Rattle.mintcx_answers.proofs.corners.joint_answer.Goals as goal

pub text_of_corners-requires-clause-alone : goal.text_of_corners-requires-clause-alone
text_of_corners-requires-clause-alone c =
    let own = has_alone c.args.systems.now c.args.names.now c.in_ok-alone.alone.items c.requires.names c.in_ok-alone.ensures in
    subst (λ (x : List Certificate). HasAlone c.args.systems.now c.args.names.now x) (sym c.as_slice.ensures.value) own
