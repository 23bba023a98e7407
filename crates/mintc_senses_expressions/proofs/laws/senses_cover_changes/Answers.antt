use Rattle.mintc_senses_expressions.proofs.CoverLaws.{covers}
use Rattle.mintc_senses_expressions.proofs.laws.senses_cover_changes.Goals as goal

pub returns : goal.returns
returns c = covers
