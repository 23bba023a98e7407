use Rattle.mintc_checker.specs.Judged.{KeepsOwn}
use Rattle.mintc_checker.proofs.Deciding.{alike}
use Rattle.mintc_checker.proofs.schedule_tests.keeps_phase.Goals as goal

pub returns-then-keeps_own : goal.returns-then-keeps_own
returns-then-keeps_own c = λ t e are_pairs.
    let own : KeepsOwn t.flat c.args.clocked.now.schedule.now c.args.phase = rw e (c.keeps_own.ensures.0 c.if-keeps_own.true) in
    alike _ (c.keeps_aparts.ensures t e are_pairs)
    (λ apart_from_all. record { start = own.start; span = own.span; order = own.order; wide = own.wide; apart = apart_from_all })
    (λ phase. phase.apart)
