use Rattle.std.proofs.Common.{◌≡◌, ◌≤◌, ◌-◌, length, if◌then◌else◌}
use Rattle.mintc_vlex.specs.Tokens.{tokens_behind}
use Rattle.mintc_vlex.specs.Statements.{behind_statement, behind_semicolon}
use Rattle.mintc_vlex.proofs.statement_list.statement_end.Given as goal

-- what is left behind the statement is what is left here, or what is left here behind the next `;`
abbrev pub invariant-loop-ended : goal.invariant-loop-ended
invariant-loop-ended l = record {
  behind : l.first.to ≤ l.at;
  within : l.at ≤ length l.text;
  same : behind_statement l.text l.first (tokens_behind l.text l.first.to)
      ≡ (if l.ended then tokens_behind l.text l.at else behind_semicolon l.text (tokens_behind l.text l.at));
}

abbrev pub decreases-loop-ended : goal.decreases-loop-ended
decreases-loop-ended l = length l.text - l.at
