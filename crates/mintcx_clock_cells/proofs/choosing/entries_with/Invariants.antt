use Rattle.std.proofs.Common.{◌≡◌, ◌<◌, ℕ, length, take}
use Rattle.mintc_cells.specs.Entries.{names_of, cell_at}
use Rattle.mintcx_clock_cells.specs.Clocks.{cell_for}
use Rattle.mintcx_clock_cells.proofs.choosing.entries_with.Given as goal

-- the entries so far
abbrev pub invariant-loop-number : goal.invariant-loop-number
invariant-loop-number l = record {
  count : length l.entries.items ≡ l.number;
  names : names_of l.entries.items ≡ take l.number (names_of l.cells);
  each : (k : ℕ) → k < l.number → cell_at l.entries.items k ≡ cell_for l.gates l.senses l.cells k;
}
