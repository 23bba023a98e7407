use Rattle.mintc_edges_cover.proofs.SharedHoldLaws.{pass_is_kept_lem}
use Rattle.mintc_edges_cover.proofs.laws.a_pass_is_kept.Goals as goal

pub returns : goal.returns
returns c = pass_is_kept_lem
