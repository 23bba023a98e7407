use Rattle.std.proofs.Common.{◌≡◌, length}
use Rattle.mintc_liberty_tokens.specs.Tokens.{is_item}
use Rattle.mintc_liberty_tokens.specs.Scans.{IsAhead}
use Rattle.mintc_liberty_tokens.specs.Statements.{left_over}
use Rattle.mintc_liberty_tokens.proofs.statements.items.Given as goal

abbrev pub invariant-loop : goal.invariant-loop
invariant-loop l = record {
  same : left_over is_item l.initial.scanner.tokens ≡ left_over is_item l.scanner.tokens;
  ahead : IsAhead l.initial.scanner l.scanner;
}

abbrev pub decreases-loop : goal.decreases-loop
decreases-loop l = length l.scanner.tokens
