use Rattle.std.proofs.Common.{◌≡◌, ◌≤◌, ◌-◌, drop, length}
use Rattle.mintc_sdf_tokens.specs.Tokens.{tokens_of}
use Rattle.mintc_sdf_tokens.proofs.trivia.skip_trivia.Given as goal

-- what was passed over so far has no token
abbrev pub invariant-loop-at : goal.invariant-loop-at
invariant-loop-at l = record {
  within : l.at ≤ length l.text;
  ahead : l.from ≤ l.at;
  same : tokens_of (drop l.at l.text) ≡ tokens_of (drop l.from l.text);
}

abbrev pub decreases-loop-at : goal.decreases-loop-at
decreases-loop-at l = length l.text - l.at
