use Rattle.std.proofs.Common.{◌∙◌}
use Rattle.mintc_cells.proofs.cells.put.Goals as goal

pub returns : goal.returns
returns c = (c.in_ok-bytes.bytes, c.in_ok-bytes.ensures.items ∙ c.bytes.ensures, c.in_ok-insert.ensures.entries)
