use Rattle.std.proofs.Common.{◌≡◌, ◌≤◌, ◌*◌}
use Rattle.mintc_edges.specs.Counts.{row_count}
use Rattle.mintc_edges.proofs.counting.arcs_from.Given as goal

abbrev pub invariant-loop-number : goal.invariant-loop-number
invariant-loop-number l = (l.total ≡ row_count l.senses l.cell l.input l.number) × (l.total ≤ 4 * l.number)
