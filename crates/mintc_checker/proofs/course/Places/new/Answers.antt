use Rattle.std.proofs.Common.{rules}
use Rattle.mintc_checker.proofs.Placing.{none_placed, AreApart-none}
use Rattle.mintc_checker.proofs.course.Places.new.Goals as goal

pub returns-clause-places : goal.returns-clause-places
returns-clause-places c = AreApart-none _ (none_placed c.args.bits c.in_ok-of_bits.of_bits.items (search rules)) (search rules)

pub returns-clause-none : goal.returns-clause-none
returns-clause-none c = none_placed c.args.bits c.in_ok-of_bits.of_bits.items (search rules)
