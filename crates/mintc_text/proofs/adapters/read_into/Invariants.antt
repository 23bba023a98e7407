use Rattle.std.proofs.Common.{◌≤◌, ◌-◌, vec_len}
use Rattle.mintc_text.proofs.adapters.read_into.Given as goal

abbrev pub invariant-loop-piece : goal.invariant-loop-piece
invariant-loop-piece g l = vec_len l.bytes ≤ l.most

abbrev pub decreases-loop-piece : goal.decreases-loop-piece
decreases-loop-piece g l = l.most - vec_len l.bytes
