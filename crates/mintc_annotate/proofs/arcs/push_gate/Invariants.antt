use Rattle.std.proofs.Common.{◌≡◌, ◌++◌, map, flat_map}
use Rattle.std.specs.List.{range_with_len}
use Rattle.mintc_annotate_delays.specs.Ranges.{look}
use Rattle.mintc_annotate.specs.Made.{pin_arc}
use Rattle.mintc_annotate.proofs.arcs.push_gate.Given as goal

abbrev pub invariant-loop-input : goal.invariant-loop-input
invariant-loop-input l =
    l.found.items ≡ l.initial.found.items
    ++ flat_map (λ i. map (pin_arc (look l.ranges) l.gate.elements l.gate.leaf l.gate.first l.gate.default i) (range_with_len l.gate.inputs l.gate.outputs)) (range_with_len 0 l.input)
