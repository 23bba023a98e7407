use Rattle.mintc_sdf_edges.proofs.FitLaws.{are-within}
use Rattle.mintc_sdf_edges.proofs.laws.edge_delays_are_within.Goals as goal

pub returns : goal.returns
returns c = are-within c.delays_are_within.ensures
