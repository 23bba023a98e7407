use Rattle.mintc_build_laws.proofs.SoundLaws.{described_are_sound, libraries_are_sound}
use Rattle.mintc_build_laws.proofs.laws.designs_are_sound.Goals as goal

pub returns-clause-described : goal.returns-clause-described
returns-clause-described c =
    described_are_sound c.texts_are_plain.ensures.ordinary c.delays_are_within.ensures c.clocks_keep_limits.ensures c.hierarchies_are_in_shape.ensures c.cells_keep_rules.ensures

pub returns-clause-library : goal.returns-clause-library
returns-clause-library c = libraries_are_sound c.texts_are_plain.ensures.ordinary c.delays_are_within.ensures c.clocks_keep_limits.ensures c.hierarchies_are_in_shape.ensures
