use Rattle.mintcx_edges.specs.EdgeFiles.{description, library_with}
use Rattle.mintcx_edges.proofs.FormLaws.{library_plain, description_plain}
use Rattle.mintcx_edges.proofs.PlainLaws.{laws_of, plain_lem}
use Rattle.mintcx_edges.proofs.laws.edge_files_are_plain.Goals as goal

pub returns-clause-described : goal.returns-clause-described
returns-clause-described c =
    plain_lem description
    (laws_of c.texts_are_plain.ensures.value c.texts_are_plain.ensures.no_fault c.texts_are_plain.ensures.fault c.clocks_are_determined.ensures c.clocks_are_not_refused.ensures c.bad_clocks_are_determined.ensures
    c.edge_designs_are_determined.ensures.designs c.edge_designs_are_determined.ensures.not_refused c.edge_designs_are_determined.ensures.refusals)
    (description_plain c.plain_cells_are_determined.ensures c.sensed_cells_are_not_refused.ensures c.bad_sensed_cells_are_determined.ensures)

pub returns-clause-library : goal.returns-clause-library
returns-clause-library c = λ gates.
    plain_lem (library_with gates)
    (laws_of c.texts_are_plain.ensures.value c.texts_are_plain.ensures.no_fault c.texts_are_plain.ensures.fault c.clocks_are_determined.ensures c.clocks_are_not_refused.ensures c.bad_clocks_are_determined.ensures
    c.edge_designs_are_determined.ensures.designs c.edge_designs_are_determined.ensures.not_refused c.edge_designs_are_determined.ensures.refusals)
    (library_plain gates)
