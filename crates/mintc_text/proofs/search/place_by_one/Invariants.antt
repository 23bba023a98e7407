use Rattle.std.proofs.Common.{◌≡◌, ℕ, ◌≤◌, ◌<◌, get_or}
use Rattle.mintc_text.proofs.search.place_by_one.Given as goal

-- no such byte so far
abbrev pub invariant-loop-at : goal.invariant-loop-at
invariant-loop-at l = (k : ℕ) → l.fn.from ≤ k → k < l.at → get_or l.bytes k 0 ≡ l.byte → ⊥
