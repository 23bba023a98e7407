use Rattle.mintc_paths.proofs.SystemLaws.{accepted_designs_have_systems_lem}
use Rattle.mintc_paths.proofs.laws.accepted_designs_have_systems.Goals as goal

pub returns : goal.returns
returns c = accepted_designs_have_systems_lem
