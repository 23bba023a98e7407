use Rattle.std.proofs.lemmas.Bool.{iff_false}
use Rattle.mintc_certificate.specs.declared.certificate.Certificate.TheVariants.{Least}
use Rattle.mintc_certificate.specs.Valid.{ring, sums}
use Rattle.mintc_checker.proofs.SharedFirsts.{fails_counts, fails_first, passes_more, valid_of}
use Rattle.mintc_checker.proofs.examining.judge_least.Goals as goal

pub returns-then-not-has_counts : goal.returns-then-not-has_counts
returns-then-not-has_counts c = λ t e are_pairs. fails_counts t _ (rw e (iff_false c.has_counts.ensures c.if-not-has_counts.true))

pub returns-then-not-are_ring : goal.returns-then-not-are_ring
returns-then-not-are_ring c = λ t e are_pairs.
    fails_first t _ ring ((rw c.in_default.is at c.first_of_schedule.ensures) t e are_pairs c.args.chain.now) (iff_false (c.are_ring.ensures.ring t e are_pairs) c.if-not-are_ring.true)

pub returns-then-not-is_tight : goal.returns-then-not-is_tight
returns-then-not-is_tight c = λ t e are_pairs.
    let certificate = Least c.args.schedule.now c.args.departures.now c.args.chain.now in
    fails_first t certificate sums
    (passes_more t certificate ring ((rw c.in_default.is at c.first_of_schedule.ensures) t e are_pairs c.args.chain.now) ((c.are_ring.ensures.ring t e are_pairs).0 c.if-not-are_ring.false))
    (rw e (iff_false c.is_tight.ensures c.if-not-is_tight.true))

pub returns : goal.returns
returns c = λ t e are_pairs.
    let certificate = Least c.args.schedule.now c.args.departures.now c.args.chain.now in
    valid_of t certificate ((rw c.in_default.is at c.first_of_schedule.ensures) t e are_pairs c.args.chain.now) ((c.are_ring.ensures.ring t e are_pairs).0 c.if-not-are_ring.false)
    (rw e (c.is_tight.ensures.0 c.if-not-is_tight.false))
