use Rattle.std.proofs.Common.{◌≡◌, ◌++◌, flat_map}
use Rattle.std.specs.List.{range_with_len}
use Rattle.mintc_edges.specs.Kept.{row_arcs_kept}
use Rattle.mintc_edges.proofs.arcs.push_gate.Given as goal

abbrev pub invariant-loop-input : goal.invariant-loop-input
invariant-loop-input l = l.found.items ≡ l.initial.found.items ++ flat_map (row_arcs_kept l.apart.told.now l.apart.senses.now l.gate l.default) (range_with_len 0 l.input)
