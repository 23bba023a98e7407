use Rattle.std.proofs.Common.{◌≡◌, ◌≤◌, ◌++◌, length}
use Rattle.mintcx_clamp.specs.Words.{clamped_word}
use Rattle.mintcx_clamp.proofs.words.put_word.Given as goal

-- what is written, and what is left to be written
abbrev pub invariant-loop-out : goal.invariant-loop-out
invariant-loop-out l = record {
  whole : l.out.items ++ clamped_word l.rest ≡ l.initial.out.items ++ clamped_word l.word;
  few : length l.rest ≤ length l.word;
}

abbrev pub decreases-loop-out : goal.decreases-loop-out
decreases-loop-out l = length l.rest
