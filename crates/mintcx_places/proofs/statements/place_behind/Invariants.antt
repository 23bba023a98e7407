use Rattle.std.proofs.Common.{◌≡◌, ◌≤◌, length}
use Rattle.mintc_vlex.specs.Tokens.{tokens_behind, tokens_of}
use Rattle.mintcx_places.specs.Statements.{behind_statements}
use Rattle.mintcx_places.proofs.statements.place_behind.Given as goal

-- so many statements are passed
abbrev pub invariant-loop-passed : goal.invariant-loop-passed
invariant-loop-passed l = record {
  within : l.at ≤ length l.text;
  same : tokens_behind l.text l.at ≡ behind_statements l.text l._passed (tokens_of l.text);
}
