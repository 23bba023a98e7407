use Rattle.mintc_edges_cover.proofs.SharedRightLaws.{hopeless_only_where_lem}
use Rattle.mintc_edges_cover.proofs.laws.hopeless_only_where.Goals as goal

pub returns : goal.returns
returns c = hopeless_only_where_lem
