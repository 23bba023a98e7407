use Rattle.std.proofs.lemmas.Grind.{common_steps}
use Rattle.std.proofs.Common.{◌<◌, arith, ap, subst, ⊎_elim}
use Rattle.std.proofs.lemmas.Int.{ints}
use Rattle.std.proofs.lemmas.Bool.{OnTrue_at, OnFalse_at, or_cases, or_parts}
use Rattle.mintc_constraints.specs.Rooms.{Space}
use Rattle.mintc_timing.specs.Design.{element_count}
use Rattle.mintc_departure.specs.Rounds.{AreSwept}
use Rattle.mintc_departure.proofs.Filling.{kept-early}
use Rattle.mintc_departure.proofs.SweepLaws.{none-before}
use Rattle.mintc_departure.proofs.rising.sweep.Goals as goal

pub loop-at-preserved : goal.loop-at-preserved
loop-at-preserved c =
    let t = c.args.clocked.now.system.now in
    let s = c.args.clocked.now.schedule.now in
    let i = c.loop-at.invariant in
    let room = c.recompute_at-changed.new.room in
    let stale = c.recompute_at-changed.new.stale.words.items in
    let touched = c.recompute_at-changed.ensures in
    record {
      kept = kept-early c.args.room.now c.loop-at.room room _ touched.kept i.kept;
      swept = subst (λ xs. AreSwept t s xs room.early stale) (ap (λ (r : Space). r.late) i.kept) touched.swept;
      up = λ k lt. omega (arith, ints, i.up k lt, touched.up k lt);
      differs = λ e. ⊎_elim
          (λ before. let w = i.differs before in (w.0, w.1, let rose = w.2 in omega (arith, ints, touched.up w.0 w.1)))
          (λ now.
          let h : c.loop-at.at < element_count t.flat = omega (arith, c.count-count.ensures.value) in
          (c.loop-at.at, h, let rose = OnTrue_at now touched.changed in omega (arith, ints, i.up c.loop-at.at h)))
          (or_cases _ _ e);
      none = λ e.
          let off = or_parts _ _ e in
          none-before c.loop-at.at _ c.loop-at.stale.words.items stale (i.none off.0) (OnFalse_at off.1 touched.out) (OnFalse_at off.1 touched.only) c.next-at-in-loop-at.ensures.none;
    }

pub loop-at-init : goal.loop-at-init
loop-at-init c = grind (arith, common_steps)
