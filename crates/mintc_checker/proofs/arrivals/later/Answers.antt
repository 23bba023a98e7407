use Rattle.std.proofs.Common.{ap, arith, Some}
use Rattle.std.proofs.lemmas.Int.{ints, clamps}
use Rattle.mintc_checker.specs.Judged.{IsArrivalTime, IsLate}
use Rattle.mintc_checker.proofs.arrivals.later.Goals as goal

last_range : (c : goal.After-max) → IsArrivalTime c.in-Some-last.last
last_range c = rw c.in-Some-last.is at c.requires.last

label_range : (c : goal.After-max) → IsLate c.in-Some.label
label_range c = rw c.in-Some.is at c.requires.label

pub returns-clause-value : goal.returns-clause-value
returns-clause-value c = rw (c.in-Some.is, c.in-Some-last.is) (ap Some (omega (arith, ints, clamps, c.max.ensures.value, last_range c, label_range c)))

pub returns-clause-range : goal.returns-clause-range
returns-clause-range c = (omega (arith, ints, clamps, c.max.ensures.value, last_range c, label_range c), omega (arith, ints, clamps, c.max.ensures.value, last_range c, label_range c))
