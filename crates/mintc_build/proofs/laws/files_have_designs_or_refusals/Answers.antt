use Rattle.mintc_build.specs.FilesDesign.{described_by, library_by}
use Rattle.mintc_build.proofs.EachLaws.{each_lem, described_each, library_each}
use Rattle.mintc_build.proofs.laws.files_have_designs_or_refusals.Goals as goal

pub returns-clause-described : goal.returns-clause-described
returns-clause-described c = each_lem described_by (record {
  netlist = c.texts_are_plain.ensures.answer;
  clock = c.texts_have_clocks_or_refusals.ensures;
  design = c.there_is_a_design_or_a_refusal.ensures;
}) (described_each c.texts_have_cells_or_refusals.ensures)

pub returns-clause-library : goal.returns-clause-library
returns-clause-library c = each_lem library_by (record {
  netlist = c.texts_are_plain.ensures.answer;
  clock = c.texts_have_clocks_or_refusals.ensures;
  design = c.there_is_a_design_or_a_refusal.ensures;
}) library_each
