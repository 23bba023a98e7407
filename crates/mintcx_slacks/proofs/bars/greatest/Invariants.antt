use Rattle.std.proofs.Common.{◌≡◌, ◌≤◌, ◌^◌, take}
use Rattle.mintcx_slacks.specs.Histograms.{most_of}
use Rattle.mintcx_slacks.proofs.bars.greatest.Given as goal

-- the greatest so far
abbrev pub invariant-loop-slack : goal.invariant-loop-slack
invariant-loop-slack l = record { value : l.most ≡ most_of (take l.slack-index l.extra); few : l.most ≤ 10 ^ 19 }
