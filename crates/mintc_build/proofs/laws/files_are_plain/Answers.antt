use Rattle.mintc_build.specs.FilesDesign.{described_by, library_by}
use Rattle.mintc_build.proofs.FilesLaws.{AreLaws, plain_lem}
use Rattle.mintc_build.proofs.SharedFilesLaws.{described_plain, library_plain}
use Rattle.mintc_build.proofs.laws.files_are_plain.Goals as goal

pub returns-clause-described : goal.returns-clause-described
returns-clause-described c =
    let law : AreLaws = record {
      one_netlist = c.texts_are_plain.ensures.value;
      no_fault = c.texts_are_plain.ensures.no_fault;
      one_fault = c.texts_are_plain.ensures.fault;
      one_clock = c.clocks_are_determined.ensures;
      no_bad_clock = c.clocks_are_not_refused.ensures;
      one_bad_clock = c.bad_clocks_are_determined.ensures;
      one_design = c.designs_are_determined.ensures;
      no_refusal = c.designs_are_not_refused.ensures;
      one_refusal = c.annotate_refusals_are_determined.ensures;
    } in
    plain_lem described_by law (described_plain c.cells_are_determined.ensures c.cells_are_not_refused.ensures c.bad_cells_are_determined.ensures)

pub returns-clause-library : goal.returns-clause-library
returns-clause-library c =
    let law : AreLaws = record {
      one_netlist = c.texts_are_plain.ensures.value;
      no_fault = c.texts_are_plain.ensures.no_fault;
      one_fault = c.texts_are_plain.ensures.fault;
      one_clock = c.clocks_are_determined.ensures;
      no_bad_clock = c.clocks_are_not_refused.ensures;
      one_bad_clock = c.bad_clocks_are_determined.ensures;
      one_design = c.designs_are_determined.ensures;
      no_refusal = c.designs_are_not_refused.ensures;
      one_refusal = c.annotate_refusals_are_determined.ensures;
    } in
    plain_lem library_by law library_plain
