use Rattle.std.proofs.Common.{ℕ, ◌≤◌, ◌<◌, get_or}
use Rattle.mintc_text.specs.Lines.{IsGraphic}
use Rattle.mintc_text.proofs.words.word_end.Given as goal

-- all graphic so far
abbrev pub invariant-loop-at : goal.invariant-loop-at
invariant-loop-at l = (k : ℕ) → l.fn.from ≤ k → k < l.at → IsGraphic (get_or l.line k 0)
