use Rattle.std.proofs.Common.{◌≡◌, ◌++◌, map}
use Rattle.std.specs.List.{range_with_len}
use Rattle.mintc_annotate_delays.specs.Ranges.{look}
use Rattle.mintc_annotate.specs.Made.{pin_arc}
use Rattle.mintc_annotate.proofs.arcs.push_row.Given as goal

abbrev pub invariant-loop-number : goal.invariant-loop-number
invariant-loop-number l =
    l.found.items ≡ l.initial.found.items ++ map (pin_arc (look l.ranges) l.gate.elements l.gate.leaf l.gate.first l.gate.default l.input) (range_with_len l.gate.inputs l.number)
