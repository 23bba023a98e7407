use Rattle.mintcx_answers.proofs.jobs.fail_object.Goals as goal

pub fail_json-requires-clause-named : goal.fail_json-requires-clause-named
fail_json-requires-clause-named c =
    let failing = c.args.failing.now in
    c.violations_are_named.ensures failing.system.now failing.schedule.now failing.violations.now c.requires.violations
