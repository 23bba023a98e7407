use Rattle.mintc_edges_cover.proofs.SharedClockLaws.{feeds_only_where_lem}
use Rattle.mintc_edges_cover.proofs.laws.feeds_only_where.Goals as goal

pub returns : goal.returns
returns c = feeds_only_where_lem
