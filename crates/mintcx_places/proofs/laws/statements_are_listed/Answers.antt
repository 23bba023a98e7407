use Rattle.mintcx_places.proofs.ListedLaws.{statements_are_listed_lem}
use Rattle.mintcx_places.proofs.laws.statements_are_listed.Goals as goal

pub returns : goal.returns
returns c = statements_are_listed_lem
