use Rattle.std.proofs.Common.{ℕ, ◌*◌, ◌^◌, ◌<◌}
use Rattle.std.specs.Int.{IsGcd}
use Rattle.mintc_fraction.proofs.arithmetic.euclid.Given as goal

-- the divisors stay the same, and the product has been halved at each turn
abbrev pub invariant-loop-turn : goal.invariant-loop-turn
invariant-loop-turn l =
    ((g : ℕ) → IsGcd l.a l.b g → IsGcd l.fn.x l.fn.y g) × (l.b < l.a) × (l.a * l.b * 2 ^ l.turn < 2 ^ 80)
