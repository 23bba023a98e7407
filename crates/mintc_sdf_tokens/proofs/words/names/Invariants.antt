use Rattle.std.proofs.Common.{◌≡◌, ◌≤◌, ◌++◌, length}
use Rattle.mintc_sdf_tokens.specs.Words.{names_of}
use Rattle.mintc_sdf_tokens.proofs.words.names.Given as goal

-- what is left has the names that are missing
abbrev pub invariant-loop-out : goal.invariant-loop-out
invariant-loop-out l = record {
  few : length l.rest ≤ length l.word;
  whole : names_of l.divider l.word ≡ l.out.items ++ names_of l.divider l.rest;
}

abbrev pub decreases-loop-out : goal.decreases-loop-out
decreases-loop-out l = length l.rest
