use Rattle.std.proofs.Common.{◌≡◌, ℕ, ◌+◌, ◌-◌, ◌<◌, ◌≤◌, false, length}
use Rattle.mintc_text_scan.proofs.EndLaws.{is_end}
use Rattle.mintc_text_scan.proofs.comments.last_end.Given as goal

-- no `*/` before the place that ends behind the last one
abbrev pub invariant-loop-at : goal.invariant-loop-at
invariant-loop-at l = record {
  at_most : l.at ≤ length l.text;
  within : l.last ≤ l.at + 1;
  ends : (k : ℕ) → k < l.at → l.last < k + 2 → is_end l.text k ≡ false;
}

abbrev pub decreases-loop-at : goal.decreases-loop-at
decreases-loop-at l = length l.text - l.at
