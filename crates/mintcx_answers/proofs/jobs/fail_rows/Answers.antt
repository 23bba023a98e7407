use Rattle.mintcx_answers.proofs.jobs.fail_rows.Goals as goal

pub fail_csv-requires : goal.fail_csv-requires
fail_csv-requires c =
    let failing = c.args.failing.now in
    c.violations_are_named.ensures failing.system.now failing.schedule.now failing.violations.now c.requires.violations
