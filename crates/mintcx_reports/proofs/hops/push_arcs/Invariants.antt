use Rattle.std.proofs.Common.{◌≡◌, ◌++◌, ◌*◌, pos, ◌+ℤ◌, ◌*ℤ◌, ◌≤ℤ◌, take}
use Rattle.std.specs.Prelude.{flat_map}
use Rattle.std.specs.List.{range_with_len}
use Rattle.mintc_timing.specs.Paths.{greatest_delay}
use Rattle.mintcx_reports.specs.Hops.{arc_row}
use Rattle.mintcx_reports.proofs.hops.push_arcs.Given as goal

-- the rows of the arcs so far, and when data is at their end
abbrev pub invariant-loop-number : goal.invariant-loop-number
invariant-loop-number l = record {
  columns : l.table.columns ≡ l.fn.table.columns;
  at_is : l.at ≡ l.begin +ℤ greatest_delay l.told.flat.now.arcs (take l.number-index l.arcs) *ℤ l.told.schedule.now.den;
  low : l.begin ≤ℤ l.at;
  high : l.at ≤ℤ (l.begin +ℤ pos (l.number-index * 100000000000000));
  rows : l.table.rows ≡ l.fn.table.rows
      ++ flat_map (arc_row l.told.flat.now l.told.schedule.now l.told.cells.now l.told.unit l.element l.arcs l.begin) (range_with_len 0 l.number-index);
}
