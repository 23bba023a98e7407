use Rattle.std.proofs.Common.{◌≡◌, ℕ, ◌<◌, get_or}
use Rattle.mintc_timing_text.proofs.fields.begins_with.Given as goal

-- the word's bytes so far, and no space
abbrev pub invariant-loop-at : goal.invariant-loop-at
invariant-loop-at l = (k : ℕ) → k < l.at → (get_or l.rest k 0 ≡ get_or l.word k 0) × (get_or l.rest k 0 ≡ 32 → ⊥)
