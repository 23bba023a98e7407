use Rattle.std.proofs.Common.{◌≡◌, ◌≤◌, ◌-◌, length, if◌then◌else◌}
use Rattle.mintc_vlex.specs.Tokens.{tokens_behind}
use Rattle.mintc_vlex.specs.Statements.{first_statement, to_semicolon}
use Rattle.mintcx_places.specs.Statements.{end_of}
use Rattle.mintcx_places.proofs.statements.last_end.Given as goal

-- the statement ends here, or where the tokens up to the next `;` do
abbrev pub invariant-loop-ended : goal.invariant-loop-ended
invariant-loop-ended l = record {
  behind : l.first.to ≤ l.at;
  within : l.at ≤ length l.text;
  same : end_of l.first.to (first_statement l.text l.first (tokens_behind l.text l.first.to))
      ≡ (if l.ended then l.at else end_of l.at (to_semicolon l.text (tokens_behind l.text l.at)));
}

abbrev pub decreases-loop-ended : goal.decreases-loop-ended
decreases-loop-ended l = length l.text - l.at
