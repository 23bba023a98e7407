use Rattle.std.proofs.Common.{◌≡◌, ◌≤◌, max}
use Rattle.std.specs.List.{fold, range_with_len}
use Rattle.mintcx_slacks.specs.Histograms.{count_of}
use Rattle.mintcx_slacks.proofs.histogram.fullest.Given as goal

-- the greatest count of the bars so far
abbrev pub invariant-loop-number : goal.invariant-loop-number
invariant-loop-number l = record {
  value : l.most ≡ fold (λ most b. max most (count_of l.step.femtoseconds l.extra b)) 1 (range_with_len 0 l.number);
  some : 1 ≤ l.most;
}
