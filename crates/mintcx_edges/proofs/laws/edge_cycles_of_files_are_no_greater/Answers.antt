use Rattle.std.proofs.Common.{[]}
use Rattle.mintc_build.specs.FilesDesign.{described_by, library_by}
use Rattle.mintcx_edges.specs.EdgeFiles.{described_without, description, library_with, cells_with}
use Rattle.mintcx_edges.proofs.FormLaws.{described_same, without_same, library_same, gated_same}
use Rattle.mintcx_edges.proofs.KeptLaws.{AreTextLaws, cycles_lem}
use Rattle.mintcx_edges.proofs.laws.edge_cycles_of_files_are_no_greater.Goals as goal

pub returns-clause-described : goal.returns-clause-described
returns-clause-described c =
    let law : AreTextLaws = record { one_netlist = c.texts_are_plain.ensures.value; one_clock = c.clocks_are_determined.ensures; merge = c.delays_merge.ensures } in
    cycles_lem described_by description (described_same c.cells_have_no_keys.ensures c.keyless_texts_are_plain.ensures c.plain_cells_are_determined.ensures) law c.edge_cycles_are_no_greater.ensures

pub returns-clause-without : goal.returns-clause-without
returns-clause-without c =
    let law : AreTextLaws = record { one_netlist = c.texts_are_plain.ensures.value; one_clock = c.clocks_are_determined.ensures; merge = c.delays_merge.ensures } in
    cycles_lem described_without description (without_same c.plain_cells_are_determined.ensures) law c.edge_cycles_are_no_greater.ensures

pub returns-clause-library : goal.returns-clause-library
returns-clause-library c =
    let law : AreTextLaws = record { one_netlist = c.texts_are_plain.ensures.value; one_clock = c.clocks_are_determined.ensures; merge = c.delays_merge.ensures } in
    cycles_lem library_by (library_with []) library_same law c.edge_cycles_are_no_greater.ensures

pub returns-clause-gated : goal.returns-clause-gated
returns-clause-gated c =
    let law : AreTextLaws = record { one_netlist = c.texts_are_plain.ensures.value; one_clock = c.clocks_are_determined.ensures; merge = c.delays_merge.ensures } in
    λ gates. cycles_lem (cells_with gates) (library_with gates) (gated_same gates) law c.edge_cycles_are_no_greater.ensures
