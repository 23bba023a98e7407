use Rattle.std.proofs.Common.{◌≡◌, map, drop}
use Rattle.std.specs.List.{list_any}
use Rattle.mintcx_sense_keys.specs.Senses.{names_pair}
use Rattle.mintcx_sense_keys.proofs.rows.names_input.Given as goal

-- it depends on the pins that are left
abbrev pub invariant-loop-input : goal.invariant-loop-input
invariant-loop-input l =
    list_any (λ a. names_pair l.cell a l.output l.item) (map (λ n. n.now) l.inputs) ≡ list_any (λ a. names_pair l.cell a l.output l.item) (map (λ n. n.now) (drop l.input-index l.inputs))
