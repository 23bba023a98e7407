use Rattle.mintc_edges_cover.proofs.SharedRightLaws.{least_cycle_is_no_greater_lem}
use Rattle.mintc_edges_cover.proofs.laws.least_cycle_is_no_greater.Goals as goal

pub returns : goal.returns
returns c = least_cycle_is_no_greater_lem
