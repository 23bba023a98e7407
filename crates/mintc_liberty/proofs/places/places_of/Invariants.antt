use Rattle.std.proofs.Common.{◌≡◌, ◌≤◌, ◌++◌, length}
use Rattle.std.specs.List.{All}
use Rattle.mintc_liberty.specs.Places.{named_cells, entries_at, Ascends}
use Rattle.mintc_liberty.proofs.places.places_of.Given as goal

-- the cells so far, and those that are left
abbrev pub invariant-loop-place : goal.invariant-loop-place
invariant-loop-place l = record {
  same : named_cells l.library.tokens ≡ entries_at l.library.text l.places.items ++ named_cells l.scanner.tokens;
  text : l.scanner.text ≡ l.library.text;
  ascending : Ascends l.places.items;
  last : All (λ p. p ≤ l.scanner.place) l.places.items;
}

abbrev pub decreases-loop-place : goal.decreases-loop-place
decreases-loop-place l = length l.scanner.tokens
