use Rattle.std.proofs.Common.{◌≡◌, ◌≤◌, take}
use Rattle.mintcx_slacks.specs.Histograms.{count_of}
use Rattle.mintcx_slacks.proofs.bars.count.Given as goal

-- those of the bar so far
abbrev pub invariant-loop-slack : goal.invariant-loop-slack
invariant-loop-slack l = record { value : l.count ≡ count_of l.step (take l.slack-index l.extra) l.number; few : l.count ≤ l.slack-index }
