use Rattle.mintc_edges.proofs.KeptLaws.{edge_schedules_are_kept_lem}
use Rattle.mintc_edges.proofs.laws.edge_schedules_are_kept.Goals as goal

pub returns : goal.returns
returns c = edge_schedules_are_kept_lem
