use Rattle.std.proofs.Common.{◌-◌}
use Rattle.mintc_cells.specs.Entries.{cell_at}
use Rattle.mintc_annotate_resolve.specs.Pins.{input_count}
use Rattle.mintcx_edges.proofs.laws.described_edges_make_both.Goals as goal

pub returns : goal.returns
returns c = λ text cells cell input output keyless. c.keyless_texts_are_plain.ensures.all text cells cell input (output - input_count (cell_at cells cell)) keyless
