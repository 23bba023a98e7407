use Rattle.std.proofs.Common.{◌<◌, ◌≤◌, ◌*◌, ◌-◌, ℕ, length}
use Rattle.mintc_bitset.specs.BitSet.{IsIn}
use Rattle.mintc_bitset.proofs.bit_set.next_from.Given as goal

abbrev pub invariant-loop-at : goal.invariant-loop-at
invariant-loop-at l = (l.word ≤ l.at) × (l.at ≤ length l.words) × ((other : ℕ) → 64 * l.word ≤ other → other < 64 * l.at → IsIn l.words other → ⊥)

abbrev pub decreases-loop-at : goal.decreases-loop-at
decreases-loop-at l = length l.words - l.at
