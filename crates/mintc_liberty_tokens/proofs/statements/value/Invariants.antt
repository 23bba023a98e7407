use Rattle.std.proofs.Common.{◌≡◌, length}
use Rattle.mintc_liberty_tokens.specs.Tokens.{is_value}
use Rattle.mintc_liberty_tokens.specs.Scans.{IsAhead}
use Rattle.mintc_liberty_tokens.specs.Statements.{left_over}
use Rattle.mintc_liberty_tokens.specs.Reading.{after_semicolon, value_rest}
use Rattle.mintc_liberty_tokens.proofs.statements.value.Given as goal

abbrev pub invariant-loop : goal.invariant-loop
invariant-loop l = record {
  same : value_rest l.fn.scanner.tokens ≡ after_semicolon (left_over is_value l.scanner.tokens);
  ahead : IsAhead l.fn.scanner l.scanner;
}

abbrev pub decreases-loop : goal.decreases-loop
decreases-loop l = length l.scanner.tokens
