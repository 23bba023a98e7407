use Rattle.std.proofs.Common.{◌≡◌, ◌++◌, flat_map}
use Rattle.std.specs.List.{range_with_len}
use Rattle.mintc_edges.specs.Kept.{pin_arcs_kept}
use Rattle.mintc_edges.proofs.arcs.push_row.Given as goal

abbrev pub invariant-loop-output : goal.invariant-loop-output
invariant-loop-output l = l.found.items ≡ l.initial.found.items ++ flat_map (pin_arcs_kept l.apart.told.now l.apart.senses.now l.gate l.default l.input) (range_with_len 0 l.output)
