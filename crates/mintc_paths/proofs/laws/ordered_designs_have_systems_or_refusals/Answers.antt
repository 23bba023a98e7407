use Rattle.mintc_paths.proofs.LongLaws.{ordered_designs_have_systems_or_refusals_lem}
use Rattle.mintc_paths.proofs.laws.ordered_designs_have_systems_or_refusals.Goals as goal

pub returns : goal.returns
returns c = ordered_designs_have_systems_or_refusals_lem
