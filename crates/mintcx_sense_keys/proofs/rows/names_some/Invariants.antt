use Rattle.std.proofs.Common.{◌≡◌, drop}
use Rattle.std.specs.List.{list_any}
use Rattle.mintc_cells.specs.Rules.{inputs_of, outputs_of}
use Rattle.mintcx_sense_keys.specs.Senses.{names_pair}
use Rattle.mintcx_sense_keys.proofs.rows.names_some.Given as goal

-- it depends on the outputs that are left
abbrev pub invariant-loop-output : goal.invariant-loop-output
invariant-loop-output l =
    list_any (λ y. list_any (λ a. names_pair l.cell a y l.item) (inputs_of l.cell)) (outputs_of l.cell) ≡ list_any (λ y. list_any (λ a. names_pair l.cell a y l.item) (inputs_of l.cell)) (drop l.output-index l.outputs)
