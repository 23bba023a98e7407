use Rattle.mintc_edges.proofs.OneLaws.{have_edge_design_or_refusal_lem}
use Rattle.mintc_edges.proofs.laws.there_is_an_edge_design_or_a_refusal.Goals as goal

pub returns : goal.returns
returns c = have_edge_design_or_refusal_lem
