use Rattle.std.proofs.Common.{◌<◌, ℕ}
use Rattle.mintc_checker.specs.Judged.{IsFedAt}
use Rattle.mintc_checker.proofs.schedule_tests.feeds.Given as goal

-- none of the elements so far is fed
abbrev pub invariant-loop-number : goal.invariant-loop-number
invariant-loop-number l = (k : ℕ) → k < l.number → IsFedAt l.flat l.labels l.i l.j k → ⊥
