use Rattle.mintc_edges.proofs.KeptLaws.{edges_feed_only_where_lem}
use Rattle.mintc_edges.proofs.laws.edges_feed_only_where.Goals as goal

pub returns : goal.returns
returns c = edges_feed_only_where_lem
