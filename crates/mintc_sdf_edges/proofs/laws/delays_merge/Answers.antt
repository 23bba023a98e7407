use Rattle.mintc_sdf_edges.proofs.MergeLaws.{merge}
use Rattle.mintc_sdf_edges.proofs.laws.delays_merge.Goals as goal

pub returns : goal.returns
returns c = merge
