use Rattle.mintc_edges.proofs.CoverLaws.{edge_designs_are_covered_lem}
use Rattle.mintc_edges.proofs.laws.edge_designs_are_covered.Goals as goal

pub returns : goal.returns
returns c = edge_designs_are_covered_lem
