use Rattle.mintc_edges_cover.proofs.SharedRightLaws.{right_is_kept_lem}
use Rattle.mintc_edges_cover.proofs.laws.right_is_kept.Goals as goal

pub returns : goal.returns
returns c = right_is_kept_lem
