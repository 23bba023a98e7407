use Rattle.std.proofs.Common.{sym, ◌∙◌}
use Rattle.std.proofs.lemmas.Bool.{not-true, not-false}
use Rattle.mintc_clock.specs.Taken.{has_some}
use Rattle.mintc_clock.proofs.TakenLaws.{next_phase, next_clash}
use Rattle.mintc_clock.proofs.clashing.Taken.take_all.Goals as goal

pub returns-then-not-free : goal.returns-then-not-free
returns-then-not-free c =
    next_clash c.args.phases.now c.loop-number.number c.loop-number.self c.index-phases-number.result c.loop-number-test.true c.index-phases-number.is c.loop-number.invariant.0 c.loop-number.invariant.1
    (not-false (has_some c.loop-number.self c.index-phases-number.result) (sym c.in_ok-free.ensures.free ∙ c.if-not-free.true))

pub loop-number-preserved : goal.loop-number-preserved
loop-number-preserved c =
    let next = next_phase c.args.phases.now c.loop-number.number c.loop-number.self c.index-phases-number.result c.loop-number-test.true c.index-phases-number.is c.loop-number.invariant.0 c.loop-number.invariant.1
    (not-true (has_some c.loop-number.self c.index-phases-number.result) (sym c.in_ok-free.ensures.free ∙ c.if-not-free.false)) in
    rw c.in_ok-free.ensures.taken next
