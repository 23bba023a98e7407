use Rattle.std.proofs.Common.{arith}
use Rattle.mintc_command_answers.proofs.CornerLaws.{elements-together}
use Rattle.mintc_command_answers.proofs.corners_answers.optimum_of.Goals as goal

pub certificate_from-requires-clause-elements : goal.certificate_from-requires-clause-elements
certificate_from-requires-clause-elements c =
    let same = elements-together c.args.systems.now c.requires.alike in
    let few = c.requires.elements in
    omega (arith, same, few)
