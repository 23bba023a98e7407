use Rattle.std.proofs.Common.{◌≡◌, map, take}
use Rattle.mintc_cells.specs.Rules.{inputs_of}
use Rattle.mintc_senses.specs.Seen.{rows_seen}
use Rattle.mintcx_sense_keys.specs.Senses.{pair_sense}
use Rattle.mintcx_sense_keys.proofs.rows.rows.Given as goal

-- the rows of the outputs so far
abbrev pub invariant-loop-output : goal.invariant-loop-output
invariant-loop-output l = rows_seen l.rows.items ≡ map (λ y. map (λ a. pair_sense l.keys l.cell a y) (inputs_of l.cell)) (take l.output-index l.outputs)
