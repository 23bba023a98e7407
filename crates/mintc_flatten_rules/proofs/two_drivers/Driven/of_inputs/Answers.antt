use Rattle.std.proofs.Common.{◌≤◌, ℕ, List, length, subst}
use Rattle.mintc_flatten_rules.proofs.DriveLaws.{inputs_end}
use Rattle.mintc_flatten_rules.proofs.two_drivers.Driven.of_inputs.Goals as goal

pub returns : goal.returns
returns c =
    inputs_end c.args.module_nets.now.part.now c.loop-name.driven c.loop-name.name-index (subst (λ (names : List (List ℕ)). length names ≤ c.loop-name.name-index) c.items-name-items.ensures c.loop-name-test.false) c.loop-name.invariant
