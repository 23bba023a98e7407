use Rattle.std.proofs.Common.{◌≡◌, ◌+◌, ◌-◌, arith, ◌∙◌, subst}
use borrow.Author.Count.{below_more}
use Rattle.mintc_timing.specs.Clocking.{KeepsPhase}
use Rattle.mintc_checker.proofs.Deciding.{holds}
use Rattle.mintc_checker.proofs.schedule_tests.keeps_clock.Goals as goal

pub loop-index-preserved : goal.loop-index-preserved
loop-index-preserved c = λ t e are_pairs.
    below_more (λ k. KeepsPhase t c.args.clocked.now.schedule.now (k + 1)) c.loop-index.index
    (c.loop-index.invariant t e are_pairs) ((c.keeps_phase.ensures t e are_pairs).0 c.if-not-keeps_phase.false)

pub returns : goal.returns
returns c = λ t e are_pairs.
    holds (record {
      den = c.args.clocked.now.in_range.den.0;
      starts = rw e c.args.clocked.now.phases;
      widths = rw e (c.args.clocked.now.in_range.alike ∙ c.args.clocked.now.phases);
      each = λ p one most.
          let most = rw e at most in
          let same : (p - 1) + 1 ≡ p = omega arith in
          subst (λ q. KeepsPhase t c.args.clocked.now.schedule.now q) same (c.loop-index.invariant t e are_pairs (p - 1) (omega arith));
    })
