use Rattle.std.proofs.Common.{◌≡◌, ◌≤◌, length}
use Rattle.mintc_liberty_tokens.specs.Scans.{IsAhead}
use Rattle.mintc_liberty.specs.Places.{named_cells}
use Rattle.mintc_liberty.proofs.places.next_cell.Given as goal

-- no cell is passed so far
abbrev pub invariant-loop-place : goal.invariant-loop-place
invariant-loop-place l = record {
  same : named_cells l.initial.scanner.tokens ≡ named_cells l.scanner.tokens;
  shorter : length l.scanner.tokens ≤ length l.initial.scanner.tokens;
  ahead : IsAhead l.initial.scanner l.scanner;
}

abbrev pub decreases-loop-place : goal.decreases-loop-place
decreases-loop-place l = length l.scanner.tokens
