use Rattle.mintc_edges.proofs.SameLaws.{nothing_else_changes_lem}
use Rattle.mintc_edges.proofs.laws.nothing_else_changes.Goals as goal

pub returns : goal.returns
returns c = nothing_else_changes_lem
