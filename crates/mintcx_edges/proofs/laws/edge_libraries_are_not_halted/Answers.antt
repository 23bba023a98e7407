use Rattle.mintcx_edges.proofs.HaltLaws.{not_halted_lem}
use Rattle.mintcx_edges.proofs.laws.edge_libraries_are_not_halted.Goals as goal

pub returns : goal.returns
returns c = not_halted_lem c.edge_files_are_plain.ensures.library
