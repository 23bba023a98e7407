use Rattle.std.proofs.lemmas.Bool.{iff_false}
use Rattle.mintc_certificate.specs.declared.certificate.Certificate.TheVariants.{Least}
use Rattle.mintc_certificate.specs.Valid.{clock, bounds, departures, setups}
use Rattle.mintc_checker.proofs.SharedFirsts.{fails_first, after_counts, after_clock, after_bounds, after_departures, after_setups}
use Rattle.mintc_checker.proofs.examining.first_of_schedule.Goals as goal

pub returns-then-not-keeps_clock : goal.returns-then-not-keeps_clock
returns-then-not-keeps_clock c = λ t e are_pairs chain.
    let certificate = Least c.args.clocked.now.schedule.now c.args.departures.now chain in
    fails_first t certificate clock (after_counts t certificate (rw e c.requires.counts)) (iff_false (c.keeps_clock.ensures t e are_pairs) c.if-not-keeps_clock.true)

pub returns-then-not-keeps_bounds : goal.returns-then-not-keeps_bounds
returns-then-not-keeps_bounds c = λ t e are_pairs chain.
    let certificate = Least c.args.clocked.now.schedule.now c.args.departures.now chain in
    fails_first t certificate bounds (after_clock t certificate (rw e c.requires.counts) ((c.keeps_clock.ensures t e are_pairs).0 c.if-not-keeps_clock.false))
    (rw e (iff_false c.keeps_bounds.ensures c.if-not-keeps_bounds.true))

pub returns-then-not-are_exact : goal.returns-then-not-are_exact
returns-then-not-are_exact c = λ t e are_pairs chain.
    let certificate = Least c.args.clocked.now.schedule.now c.args.departures.now chain in
    fails_first t certificate departures
    (after_bounds t certificate (rw e c.requires.counts) ((c.keeps_clock.ensures t e are_pairs).0 c.if-not-keeps_clock.false) (rw e (c.keeps_bounds.ensures.0 c.if-not-keeps_bounds.false)))
    (iff_false (c.are_exact.ensures t e are_pairs) c.if-not-are_exact.true)

pub returns-then-not-keep_setups : goal.returns-then-not-keep_setups
returns-then-not-keep_setups c = λ t e are_pairs chain.
    let certificate = Least c.args.clocked.now.schedule.now c.args.departures.now chain in
    fails_first t certificate setups
    (after_departures t certificate (rw e c.requires.counts) ((c.keeps_clock.ensures t e are_pairs).0 c.if-not-keeps_clock.false) (rw e (c.keeps_bounds.ensures.0 c.if-not-keeps_bounds.false))
    ((c.are_exact.ensures t e are_pairs).0 c.if-not-are_exact.false))
    (iff_false (c.keep_setups.ensures t e are_pairs) c.if-not-keep_setups.true)

pub returns : goal.returns
returns c = λ t e are_pairs chain.
    let certificate = Least c.args.clocked.now.schedule.now c.args.departures.now chain in
    after_setups t certificate (rw e c.requires.counts) ((c.keeps_clock.ensures t e are_pairs).0 c.if-not-keeps_clock.false) (rw e (c.keeps_bounds.ensures.0 c.if-not-keeps_bounds.false))
    ((c.are_exact.ensures t e are_pairs).0 c.if-not-are_exact.false) ((c.keep_setups.ensures t e are_pairs).0 c.if-not-keep_setups.false)
