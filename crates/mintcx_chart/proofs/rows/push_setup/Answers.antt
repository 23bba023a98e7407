use Rattle.std.proofs.Common.{arith}
use Rattle.std.proofs.lemmas.Grind.{common_steps}
use Rattle.mintcx_chart.proofs.rows.push_setup.Goals as goal

pub overflow_sub-begins : goal.overflow_sub-begins
overflow_sub-begins c = grind (
  arith,
  common_steps,
  c.own_window-ends.ensures.last,
  c.span_time.ensures.low,
  c.span_time.ensures.high,
)
