use Rattle.std.proofs.Common.{◌≡◌, length}
use Rattle.mintc_flatten_hierarchy.specs.Sources.{source_of}
use Rattle.mintc_flatten.specs.Totals.{AreCounted}
use Rattle.mintc_flatten.proofs.counts.count_modules.Given as goal

-- the modules so far are counted
abbrev pub invariant-loop-number : goal.invariant-loop-number
invariant-loop-number l = record {
  length : length l.table.items ≡ length l.modules;
  counted : AreCounted (source_of l.cells l.modules) l.order l.number-index l.table.items;
}
