use Rattle.mintc_edges_cover.proofs.SharedPathLaws.{pairs_are_covered_lem}
use Rattle.mintc_edges_cover.proofs.laws.pairs_are_covered.Goals as goal

pub returns : goal.returns
returns c = pairs_are_covered_lem
