use Rattle.std.proofs.Common.{◌≡◌, map, take}
use Rattle.mintc_senses.specs.Senses.{gate_sense}
use Rattle.mintc_senses.specs.Seen.{inside_or_none}
use Rattle.mintc_senses.proofs.rows.gate_row.Given as goal

abbrev pub invariant-loop-input : goal.invariant-loop-input
invariant-loop-input l = l.row.items ≡ map (gate_sense (inside_or_none l.room l.output.inside)) (take l.input-index l.inputs)
