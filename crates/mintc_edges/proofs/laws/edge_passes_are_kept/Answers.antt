use Rattle.mintc_edges.proofs.FedLaws.{edge_passes_are_kept_lem}
use Rattle.mintc_edges.proofs.laws.edge_passes_are_kept.Goals as goal

pub returns : goal.returns
returns c = edge_passes_are_kept_lem
