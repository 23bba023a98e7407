use Rattle.std.proofs.Common.{◌≡◌, map, drop}
use Rattle.std.specs.List.{list_all}
use Rattle.mintcx_sense_keys.specs.Senses.{is_named_once}
use Rattle.mintcx_sense_keys.proofs.rows.are_named_once_at.Given as goal

-- it depends on the pins that are left
abbrev pub invariant-loop-input : goal.invariant-loop-input
invariant-loop-input l =
    list_all (λ a. is_named_once l.keys l.cell a l.output) (map (λ n. n.now) l.inputs) ≡ list_all (λ a. is_named_once l.keys l.cell a l.output) (map (λ n. n.now) (drop l.input-index l.inputs))
