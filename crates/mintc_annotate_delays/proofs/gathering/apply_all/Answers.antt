use Rattle.std.proofs.Common.{◌≡◌, Some, length, refl}
use Rattle.std.proofs.lemmas.Result.{err_from_is_err_and}
use Rattle.mintc_annotate_resolve.specs.Resolution.{resolved, refusal_of, first_refusal}
use Rattle.mintc_annotate_resolve.proofs.SharedInstanceLaws.{at_top}
use Rattle.mintc_annotate_delays.proofs.SharedLeafLaws.{stops_more}
use Rattle.mintc_annotate_delays.proofs.DelayLaws.{ranges_more}
use Rattle.mintc_annotate_delays.proofs.SharedDelayLaws.{unrefused_more, refused_here}
use Rattle.mintc_annotate_delays.proofs.gathering.apply_all.Goals as goal

pub loop-delay-init : goal.loop-delay-init
loop-delay-init c = record {
  unrefused = refl;
  ranges = c.requires.empty;
  room = λ bits leaves room. room;
  last = at_top c.args.lookup.now.hierarchy.now c.requires.lookup.shape.some_scope;
}

pub apply_delay-requires-clause-room : goal.apply_delay-requires-clause-room
apply_delay-requires-clause-room c =
    let h = c.args.lookup.now.hierarchy.now in
    c.loop-delay.invariant.room (length h.inner) (length h.leaves) c.requires.room

pub loop-delay-preserved : goal.loop-delay-preserved
loop-delay-preserved c =
    let h = c.args.lookup.now.hierarchy.now in
    let cells = c.args.lookup.now.cells.now in
    let d = c.delay-item.result in
    record {
      unrefused = unrefused_more h cells c.args.delays.now c.loop-delay.delay-index d c.loop-delay-test.true c.delay-item.is c.loop-delay.invariant.unrefused c.in_ok-last.ensures.ok.unrefused;
      ranges = ranges_more h cells c.args.delays.now c.loop-delay.delay-index d c.loop-delay.ranges c.apply_delay.new.ranges c.loop-delay-test.true c.delay-item.is c.loop-delay.invariant.ranges c.in_ok-last.ensures.ok;
      room = λ bits leaves room. c.in_ok-last.ensures.ok.room bits leaves (c.loop-delay.invariant.room bits leaves room);
      last = c.in_ok-last.ensures.stands;
    }

pub returns-in_err-last-clause-err : goal.returns-in_err-last-clause-err
returns-in_err-last-clause-err c =
    let h = c.args.lookup.now.hierarchy.now in
    let cells = c.args.lookup.now.cells.now in
    let d = c.delay-item.result in
    let p = err_from_is_err_and c.from_residual.result c.from_residual.ensures.1 in
    rw (p.1, p.2) (stops_more (λ r. refusal_of d.entry (resolved h cells d) ≡ Some r) (λ r. first_refusal h cells c.args.delays.now ≡ Some r)
    (λ r known. refused_here h cells c.args.delays.now c.loop-delay.delay-index d r c.loop-delay-test.true c.delay-item.is c.loop-delay.invariant.unrefused known) c.in_err-last.field-0.0 c.in_err-last.ensures.err)
