use Rattle.mintc_edges.proofs.KeptLaws.{edges_are_hopeless_only_where_lem}
use Rattle.mintc_edges.proofs.laws.edges_are_hopeless_only_where.Goals as goal

pub returns : goal.returns
returns c = edges_are_hopeless_only_where_lem
