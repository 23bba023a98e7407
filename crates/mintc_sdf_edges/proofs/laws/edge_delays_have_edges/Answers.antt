use Rattle.mintc_sdf_edges.proofs.FitLaws.{have-edges}
use Rattle.mintc_sdf_edges.proofs.laws.edge_delays_have_edges.Goals as goal

pub returns : goal.returns
returns c = have-edges
