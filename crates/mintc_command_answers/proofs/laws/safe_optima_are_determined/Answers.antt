use Rattle.mintc_command_answers.proofs.OptimaLaws.{safe_optima_lem}
use Rattle.mintc_command_answers.proofs.laws.safe_optima_are_determined.Goals as goal

pub returns : goal.returns
returns c = safe_optima_lem c.safe_meets_links.ensures
