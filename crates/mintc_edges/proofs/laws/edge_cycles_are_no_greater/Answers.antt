use Rattle.mintc_edges.proofs.KeptLaws.{edge_cycles_are_no_greater_lem}
use Rattle.mintc_edges.proofs.laws.edge_cycles_are_no_greater.Goals as goal

pub returns : goal.returns
returns c = edge_cycles_are_no_greater_lem
