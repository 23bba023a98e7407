use Rattle.std.proofs.Common.{true, false, sym, ◌∙◌}
use Rattle.mintc_senses_expressions.proofs.FunctionLaws.{some-read, none-read, read-covers}
use Rattle.mintc_senses_expressions.proofs.readings.function_sense.Goals as goal

pub returns-then-has_some-clause-sense : goal.returns-then-has_some-clause-sense
returns-then-has_some-clause-sense c = sym (some-read c.args.name.now c.args.text.now c.in-Some.sense true (sym c.in_ok-sense.ensures ∙ c.in-Some.is) c.if-has_some.ensures)

pub returns-then-has_some-clause-covers : goal.returns-then-has_some-clause-covers
returns-then-has_some-clause-covers c = read-covers c.args.name.now c.args.text.now c.in-Some.sense (sym c.in_ok-sense.ensures ∙ c.in-Some.is)

pub returns-else-has_some-clause-sense : goal.returns-else-has_some-clause-sense
returns-else-has_some-clause-sense c = sym (some-read c.args.name.now c.args.text.now c.in-Some.sense false (sym c.in_ok-sense.ensures ∙ c.in-Some.is) c.if-has_some.ensures)

pub returns-in-None-clause-sense : goal.returns-in-None-clause-sense
returns-in-None-clause-sense c = sym (none-read c.args.name.now c.args.text.now (sym c.in_ok-sense.ensures ∙ c.in-None.is))
