use Rattle.mintcx_answers.proofs.verdicts.schedule_violations.Goals as goal

pub returns-clause-named : goal.returns-clause-named
returns-clause-named c = c.violations_are_named.ensures c.args.system.now c.args.schedule.now c.in_ok-found.found.items c.in_ok-found.ensures.violations
