use Rattle.std.proofs.Common.{◌≡◌, ℕ, ◌-◌, ◌≤◌, ◌<◌, get_or, length}
use Rattle.mintc_text.proofs.search.place_of.Given as goal

-- no such byte so far
abbrev pub invariant-loop-at : goal.invariant-loop-at
invariant-loop-at l = (l.fn.from ≤ l.at) × (l.at ≤ length l.bytes) × ((k : ℕ) → l.fn.from ≤ k → k < l.at → get_or l.bytes k 0 ≡ l.byte → ⊥)

abbrev pub decreases-loop-at : goal.decreases-loop-at
decreases-loop-at l = length l.bytes - l.at
