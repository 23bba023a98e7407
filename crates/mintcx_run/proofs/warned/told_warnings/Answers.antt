use Rattle.mintcx_run.proofs.warned.told_warnings.Goals as goal

pub returns-in-Ok : goal.returns-in-Ok
returns-in-Ok c = (c.in_ok-design.design, c.in_ok-design.ensures, rw c.large.ensures at c.in-Ok.ensures)
