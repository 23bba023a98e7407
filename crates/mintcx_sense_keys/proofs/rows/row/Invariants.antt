use Rattle.std.proofs.Common.{◌≡◌, map, take}
use Rattle.mintcx_sense_keys.specs.Senses.{pair_sense}
use Rattle.mintcx_sense_keys.proofs.rows.row.Given as goal

-- the senses of the pins so far
abbrev pub invariant-loop-input : goal.invariant-loop-input
invariant-loop-input l = l.row.items ≡ map (λ a. pair_sense l.keys l.cell a l.output) (map (λ n. n.now) (take l.input-index l.inputs))
