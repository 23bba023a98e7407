use Rattle.std.proofs.Common.{◌<◌, length, IfSome}
use Rattle.mintc_graph_walks.proofs.rings.heaviest.Given as goal

abbrev pub invariant-loop-step : goal.invariant-loop-step
invariant-loop-step g l = IfSome l.heaviest (λ v. v < length l.before)
