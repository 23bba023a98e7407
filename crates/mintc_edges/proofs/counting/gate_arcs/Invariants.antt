use Rattle.std.proofs.Common.{◌≡◌, min}
use Rattle.mintc_text.specs.declared.limits.TheConstants.{MOST_TOLD}
use Rattle.mintc_edges.specs.Counts.{gate_count}
use Rattle.mintc_edges.proofs.counting.gate_arcs.Given as goal

abbrev pub invariant-loop-input : goal.invariant-loop-input
invariant-loop-input l = l.total ≡ min (gate_count l.senses l.cell l.input l.outputs) MOST_TOLD
