use Rattle.std.proofs.Common.{refl}
use Rattle.mintc_timing.proofs.SharedFitting.{read_time, IsTime-IsDelay}
use Rattle.mintc_checker.proofs.course.bare_step.Goals as goal

pub returns : goal.returns
returns c = rw (read_time c.args.arc.max (IsTime-IsDelay _ c.requires)) refl
