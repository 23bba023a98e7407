use Rattle.std.proofs.Common.{◌≡◌, ◌+◌, ◌++◌, List, map, drop}
use Rattle.mintc_clock.specs.declared.clock.Listed.{Listed}
use Rattle.mintc_annotate.specs.Counts.{with_port}
use Rattle.mintc_edges.specs.Kept.{output_arcs_of}
use Rattle.mintc_edges.proofs.arcs.push_outputs.Given as goal

-- with the arcs of the bits that are left it is whole
abbrev pub invariant-loop-number : goal.invariant-loop-number
invariant-loop-number l =
    (listed : List Listed) → l.initial.found.items ++ output_arcs_of l.told l.elements l.first (map (with_port listed) l.bits) ≡ l.found.items ++ output_arcs_of l.told l.elements (l.first + l.number) (map (with_port listed) (drop l.number l.bits))
