use Rattle.std.proofs.Common.{◌≡◌, map, take}
use Rattle.mintc_flatten.specs.Totals.{net_count}
use Rattle.mintc_flatten.proofs.counts.net_counts.Given as goal

-- the counts of the modules so far
abbrev pub invariant-loop-table : goal.invariant-loop-table
invariant-loop-table l = l.counts.items ≡ map net_count (take l.table-index l.modules)
