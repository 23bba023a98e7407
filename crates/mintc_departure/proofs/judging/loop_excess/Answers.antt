use Rattle.std.proofs.Common.{◌<◌, ◌+ℤ◌, get_or, take, arith, ap, ◌∙◌, sym}
use Rattle.mintc_text.specs.declared.limits.TheConstants.{MOST_ELEMENTS}
use Rattle.mintc_timing.specs.Design.{pair_at}
use Rattle.mintc_timing.specs.Violations.{loop_amount}
use Rattle.mintc_timing.proofs.SharedFitting.{read_time}
use Rattle.mintc_departure.proofs.SharedSizes.{shifted_delay-within}
use Rattle.mintc_departure.specs.Networks.{late_travel}
use Rattle.mintc_departure.proofs.LoopSums.{IsTravel, few_pairs, read_sum, sum-fits, sum-within, total-more}
use Rattle.mintc_departure.proofs.judging.loop_excess.Goals as goal

few : (c : goal.After-late_delay-amount) → c.loop-pair.pair-index < MOST_ELEMENTS
few c =
    let pairs = few_pairs c.args.clocked.now.system.now c.args.pairs.now c.late_delay-amount.ensures.kept.timing.extremes.each c.requires.closed in
    omega arith

travel : (c : goal.After-late_delay-amount) → IsTravel c.late_delay-amount.result
travel c =
    let kept = c.late_delay-amount.ensures.kept in
    let exists = c.requires.closed.exist c.loop-pair.pair-index 0 c.loop-pair-test.true in
    rw c.late_delay-amount.ensures.value (shifted_delay-within c.args.clocked.now.system.now c.args.clocked.now.schedule.now kept (get_or c.args.pairs.now c.loop-pair.pair-index 0) exists)

pub overflow_add-amount : goal.overflow_add-amount
overflow_add-amount c =
    let y = c.late_delay-amount.result in
    rw (read_time y c.late_delay-amount.ensures.range) (sum-fits c.loop-pair.pair-index _ y (few c) c.loop-pair.invariant.within (travel c))

pub loop-pair-preserved : goal.loop-pair-preserved
loop-pair-preserved c =
    let t = c.args.clocked.now.system.now in
    let s = c.args.clocked.now.schedule.now in
    let i = c.loop-pair.pair-index in
    let loop = c.args.pairs.now in
    let y = c.late_delay-amount.result in
    let r = travel c in
    let read = read_sum i _ y (few c) c.loop-pair.invariant.within r in
    record {
      is =
          read ∙ ap (λ z. z +ℤ y) c.loop-pair.invariant.is ∙ ap (λ z. loop_amount t s (take i loop) +ℤ z) c.late_delay-amount.ensures.value
          ∙ sym (total-more (λ n. late_travel t.flat s (pair_at t n)) loop i 0 c.loop-pair-test.true);
      within = rw read (sum-within i _ y c.loop-pair.invariant.within r);
    }
