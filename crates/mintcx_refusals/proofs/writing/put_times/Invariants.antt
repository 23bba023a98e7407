use Rattle.std.proofs.Common.{◌≡◌, ◌++◌}
use Rattle.std.specs.Prelude.{replicate}
use Rattle.mintcx_refusals.proofs.writing.put_times.Given as goal

-- the byte is written as often as there were turns
abbrev pub invariant-loop-turn : goal.invariant-loop-turn
invariant-loop-turn l = l.lines ≡ l.fn.lines ++ replicate l._turn l.byte
