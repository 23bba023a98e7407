use Rattle.mintcx_run.proofs.WarnedLaws.{one_file_more}
use Rattle.mintcx_run.proofs.warned.delays_of.Goals as goal
use Rattle.mintcx_run.proofs.warned.delays_of.Goals.{then-are_delays+in_ok-push, else-are_delays}

pub loop-at-preserved : goal.loop-at-preserved
loop-at-preserved c = elim c.if-are_delays.branch [
  | then-are_delays+in_ok-push w ↦
      rw w.found-is (one_file_more c.args.order.now c.args.files.now c.loop-at.found.items _ c.loop-at.at w.file_of.result c.loop-at.invariant (rw c.items-names.ensures at w.file_of.ensures) w.in_ok-push.ensures.items)
  | else-are_delays w ↦ rw w.found-is c.loop-at.invariant
]
