use Rattle.mintcx_run.proofs.TakingLaws.{AreTakenBefore}
use Rattle.mintcx_run.proofs.taking.take_files.Given as goal

-- the files so far are taken
abbrev pub invariant-loop-at : goal.invariant-loop-at
invariant-loop-at l = AreTakenBefore l.order l.at l.fn.files l.files
