use Rattle.std.proofs.Common.{All}
use Rattle.mintcx_run.specs.Warned.{IsSomeFileOf}
use Rattle.mintcx_run.proofs.warned.delays_of.Given as goal

-- the files so far are some of the order
abbrev pub invariant-loop-at : goal.invariant-loop-at
invariant-loop-at l = All (IsSomeFileOf l.order l.files) l.found.items
