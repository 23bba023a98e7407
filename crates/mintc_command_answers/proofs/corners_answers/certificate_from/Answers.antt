use Rattle.std.proofs.Common.{arith}
use Rattle.mintc_command_answers.proofs.CornerLaws.{elements-together}
use Rattle.mintc_command_answers.proofs.corners_answers.certificate_from.Goals as goal

pub corners-requires-clause-elements : goal.corners-requires-clause-elements
corners-requires-clause-elements g c =
    let same = elements-together c.args.systems.now c.requires.alike in
    let few = c.requires.elements in
    omega (arith, same, few)
