use Rattle.mintc_edges_cover.proofs.SharedPathLaws.{paths_are_covered_lem}
use Rattle.mintc_edges_cover.proofs.laws.paths_are_covered.Goals as goal

pub returns : goal.returns
returns c = paths_are_covered_lem
