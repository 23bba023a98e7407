use Rattle.std.proofs.Common.{◌≡◌, ℕ, ℤ, ap, arith}
use Rattle.std.proofs.lemmas.Int.{ints}
use Rattle.mintcx_judgements.specs.declared.rules.Excess.{Excess}
use Rattle.mintcx_judgements.proofs.WideLaws.{wide}
use Rattle.mintcx_judgements.proofs.rules.excess_of.Goals as goal

by_amount : (c : goal.After-from) → wide c.from.result ≡ c.args.amount
by_amount c = omega (arith, ints, c.from.ensures, c.ranges.amount.sfits)

abbrev made : ℕ → ℤ → Excess
made p x = record { phase = p; amount = x }

pub returns-clause-value : goal.returns-clause-value
returns-clause-value c = ap (made c.args.phase) (by_amount c)

pub returns-clause-range : goal.returns-clause-range
returns-clause-range c = rw (by_amount c) (omega (arith, ints, c.ranges.amount.sfits), omega (arith, ints, c.ranges.amount.sfits))
