use Rattle.mintc_safe_laws.proofs.OptimumLaws.{safe_optima_exist_lem}
use Rattle.mintc_safe_laws.proofs.laws.safe_optima_exist.Goals as goal

pub returns : goal.returns
returns c = safe_optima_exist_lem c.safe_links_are_ordinary.ensures
