use Rattle.std.proofs.Common.{◌≡◌, ◌≤◌, ◌-◌, length}
use Rattle.mintc_vlex.specs.Tokens.{tokens_behind}
use Rattle.mintc_vlex.proofs.token_list.next_token.Given as goal

-- nothing but what is passed over stands before the place
abbrev pub invariant-loop-at : goal.invariant-loop-at
invariant-loop-at l = record {
  behind : l.from ≤ l.at;
  same : tokens_behind l.text l.from ≡ tokens_behind l.text l.at;
}

abbrev pub decreases-loop-at : goal.decreases-loop-at
decreases-loop-at l = length l.text - l.at
