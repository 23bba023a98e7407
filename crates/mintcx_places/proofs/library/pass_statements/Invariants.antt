use Rattle.std.proofs.Common.{◌≡◌, Some}
use Rattle.mintcx_places.specs.Library.{behind_statements}
use Rattle.mintcx_places.proofs.library.pass_statements.Given as goal

-- so many statements are passed
abbrev pub invariant-loop-passed : goal.invariant-loop-passed
invariant-loop-passed l = record {
  passed : behind_statements l._passed l.fn.scanner.tokens ≡ Some l.scanner.tokens;
  same : l.scanner.text ≡ l.fn.scanner.text;
}
