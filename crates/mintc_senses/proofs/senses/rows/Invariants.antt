use Rattle.std.proofs.Common.{◌≡◌, map, take}
use Rattle.mintc_cells.specs.Rules.{inputs_of}
use Rattle.mintc_liberty_tokens.specs.Statements.{front}
use Rattle.mintc_liberty_cell.specs.Meaning.{groups}
use Rattle.mintc_senses.specs.Senses.{sense_in}
use Rattle.mintc_senses.specs.Seen.{rows_seen}
use Rattle.mintc_senses.proofs.senses.rows.Given as goal

abbrev pub invariant-loop-output : goal.invariant-loop-output
invariant-loop-output l = rows_seen l.rows.items ≡ map (λ y. map (λ a. sense_in (groups (front 62 l.inside).statements) l.cell a y) (inputs_of l.cell)) (take l.output-index l.outputs)
