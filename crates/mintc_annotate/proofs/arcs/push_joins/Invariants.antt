use Rattle.std.proofs.Common.{◌≡◌, ◌++◌, map, take}
use Rattle.mintc_annotate_delays.specs.Ranges.{look}
use Rattle.mintc_annotate.specs.Made.{join_arc}
use Rattle.mintc_annotate.proofs.arcs.push_joins.Given as goal

abbrev pub invariant-loop-join : goal.invariant-loop-join
invariant-loop-join l = l.found.items ≡ l.initial.found.items ++ map (join_arc (look l.ranges) l.elements) (take l.join-index l.joins)
