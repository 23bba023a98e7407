use Rattle.mintc_build.proofs.RefusalLaws.{determined_lem}
use Rattle.mintc_build.proofs.laws.design_refusals_are_determined.Goals as goal

pub returns : goal.returns
returns c = determined_lem c.pairs_are_determined.ensures
