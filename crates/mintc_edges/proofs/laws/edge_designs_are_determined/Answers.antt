use Rattle.mintc_edges.proofs.OneLaws.{edge_designs_are_determined_lem, edge_designs_are_not_refused_lem, edge_refusals_are_determined_lem}
use Rattle.mintc_edges.proofs.laws.edge_designs_are_determined.Goals as goal

pub returns-clause-designs : goal.returns-clause-designs
returns-clause-designs c = edge_designs_are_determined_lem

pub returns-clause-not_refused : goal.returns-clause-not_refused
returns-clause-not_refused c = edge_designs_are_not_refused_lem

pub returns-clause-refusals : goal.returns-clause-refusals
returns-clause-refusals c = edge_refusals_are_determined_lem
