use Rattle.std.proofs.Common.{◌≡◌, drop}
use Rattle.std.specs.List.{list_all}
use Rattle.mintc_cells.specs.Rules.{inputs_of, outputs_of}
use Rattle.mintcx_sense_keys.specs.Senses.{is_named_once}
use Rattle.mintcx_sense_keys.proofs.rows.are_named_once.Given as goal

-- it depends on the outputs that are left
abbrev pub invariant-loop-output : goal.invariant-loop-output
invariant-loop-output l =
    list_all (λ y. list_all (λ a. is_named_once l.keys l.cell a y) (inputs_of l.cell)) (outputs_of l.cell) ≡ list_all (λ y. list_all (λ a. is_named_once l.keys l.cell a y) (inputs_of l.cell)) (drop l.output-index l.outputs)
