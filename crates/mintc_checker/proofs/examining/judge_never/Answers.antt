use Rattle.std.proofs.Common.{arith}
use Rattle.std.proofs.lemmas.Bool.{iff_false}
use Rattle.std.proofs.lemmas.Int.{ints}
use Rattle.mintc_certificate.specs.declared.certificate.Certificate.TheVariants.{Never}
use Rattle.mintc_certificate.specs.Valid.{ring, sums}
use Rattle.mintc_checker.proofs.SharedFirsts.{after_setups, fails_first, passes_more, valid_of}
use Rattle.mintc_checker.proofs.examining.judge_never.Goals as goal

pub invariant_of-departing : goal.invariant_of-departing
invariant_of-departing c = record { short = c.requires.short; in_range = λ k d below. absurd (omega arith); is_den = (omega (arith, ints), omega (arith, ints)) }

pub returns-then-not-are_ring : goal.returns-then-not-are_ring
returns-then-not-are_ring c = λ t e are_pairs.
    let certificate = Never c.args.chain.now in
    fails_first t certificate ring (after_setups t certificate tt tt tt tt tt) (iff_false (c.are_ring.ensures.ring t e are_pairs) c.if-not-are_ring.true)

pub returns-then-not-is_stuck : goal.returns-then-not-is_stuck
returns-then-not-is_stuck c = λ t e are_pairs.
    let certificate = Never c.args.chain.now in
    fails_first t certificate sums (passes_more t certificate ring (after_setups t certificate tt tt tt tt tt) ((c.are_ring.ensures.ring t e are_pairs).0 c.if-not-are_ring.false))
    (rw e (iff_false c.is_stuck.ensures c.if-not-is_stuck.true))

pub returns : goal.returns
returns c = λ t e are_pairs.
    let certificate = Never c.args.chain.now in
    valid_of t certificate (after_setups t certificate tt tt tt tt tt) ((c.are_ring.ensures.ring t e are_pairs).0 c.if-not-are_ring.false) (rw e (c.is_stuck.ensures.0 c.if-not-is_stuck.false))
