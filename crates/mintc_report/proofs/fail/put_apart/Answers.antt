use Rattle.std.proofs.Common.{append_assoc}
use Rattle.mintc_report.proofs.fail.put_apart.Goals as goal

pub returns : goal.returns
returns c = simp append_assoc at (rw c.in_ok-put_violated.ensures at c.put_number.ensures)
