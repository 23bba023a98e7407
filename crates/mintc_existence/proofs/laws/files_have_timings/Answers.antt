use Rattle.mintc_existence.proofs.FilesLaws.{files_have_timings_lem}
use Rattle.mintc_existence.proofs.laws.files_have_timings.Goals as goal

pub returns : goal.returns
returns c = files_have_timings_lem c.designs_have_systems_or_refusals.ensures c.systems_are_accepted.ensures c.files_have_designs_or_refusals.ensures.described c.files_have_designs_or_refusals.ensures.library c.designs_are_sound.ensures.described c.designs_are_sound.ensures.library
