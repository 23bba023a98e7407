use Rattle.std.proofs.Common.{◌≡◌, ◌+◌, ◌++◌, List, map, drop}
use Rattle.mintc_clock.specs.declared.clock.Listed.{Listed}
use Rattle.mintc_annotate.specs.Counts.{with_port}
use Rattle.mintc_edges.specs.Apart.{input_arcs_apart}
use Rattle.mintc_edges.proofs.arcs.push_inputs.Given as goal

-- with the arcs of the bits that are left it is whole
abbrev pub invariant-loop-number : goal.invariant-loop-number
invariant-loop-number l =
    (listed : List Listed) → l.initial.found.items ++ input_arcs_apart l.elements l.first (map (with_port listed) l.bits) ≡ l.found.items ++ input_arcs_apart l.elements (l.first + l.number) (map (with_port listed) (drop l.number l.bits))
