use Rattle.std.proofs.Common.{◌≡◌, Some}
use Rattle.mintc_sdf_tokens.specs.Scans.{IsAhead}
use Rattle.mintcx_places.specs.Entries.{behind_entries}
use Rattle.mintcx_places.proofs.entries.pass_entries.Given as goal

-- so many entries are passed
abbrev pub invariant-loop-passed : goal.invariant-loop-passed
invariant-loop-passed l = record {
  passed : behind_entries l._passed l.fn.scanner.tokens ≡ Some l.scanner.tokens;
  ahead : IsAhead l.fn.scanner l.scanner;
}
