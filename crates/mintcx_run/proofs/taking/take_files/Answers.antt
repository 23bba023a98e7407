use Rattle.std.proofs.Common.{arith}
use Rattle.mintcx_run.proofs.TakingLaws.{asked_of, one_kept, one_more}
use Rattle.mintcx_run.proofs.taking.take_files.Goals as goal
use Rattle.mintcx_run.proofs.taking.take_files.Goals.{then-order+then-are_delays+in_ok-clamp_file, else-order}

pub loop-at-preserved : goal.loop-at-preserved
loop-at-preserved c = elim c.if-order.branch [
  | then-order+then-are_delays+in_ok-clamp_file w ↦
      let taken = w.in_ok-clamp_file.ensures.taken in
      let asked = asked_of c.args.order.now c.loop-at.at w.are_delays.result c.roles-roles.result.now w.if-order.true c.roles-roles.ensures w.are_delays.ensures w.if-are_delays.true in
      rw w.files-is (one_more c.args.order.now c.loop-at.at c.args.files.now c.loop-at.files c.loop-at.invariant taken.0 _ (let test = c.loop-at-test.true in let count = c.loop-at.invariant.count in omega (arith, test, count)) asked taken.1 taken.2)
  | else-order w ↦ rw w.files-is (one_kept c.args.order.now c.loop-at.at c.args.files.now c.loop-at.files c.loop-at.invariant)
]
