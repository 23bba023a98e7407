use Rattle.std.proofs.Common.{◌≡◌, ◌<◌, ◌≤◌, ℕ, false, get_or}
use Rattle.mintc_paths_count.proofs.marks.is_any_reached.Given as goal

-- none of the rows so far is reached, unless one is
abbrev pub invariant-loop-row : goal.invariant-loop-row
invariant-loop-row l = l.any ≡ false → (row : ℕ) → l.first ≤ row → row < l.row → get_or l.reached row false ≡ false
