use Rattle.mintc_build.proofs.NumberLaws.{corners_lem}
use Rattle.mintc_build.proofs.laws.corners_differ_in_numbers.Goals as goal

pub returns : goal.returns
returns c = corners_lem (record {
  one_netlist = c.texts_are_plain.ensures.value;
  one_cells = c.cells_are_determined.ensures;
  one_clock = c.clocks_are_determined.ensures;
  one_design = c.designs_are_determined.ensures;
})
