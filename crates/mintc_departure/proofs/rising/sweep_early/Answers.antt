use Rattle.std.proofs.Common.{◌≤◌, ℤ, List, arith, ap, sym, subst}
use Rattle.mintc_constraints.specs.Rooms.{Space}
use Rattle.mintc_bitset.specs.BitSet.{room}
use Rattle.mintc_departure.specs.Rounds.{AreRising}
use Rattle.mintc_departure.proofs.EarlyLaws.{rising-first}
use Rattle.mintc_departure.proofs.rising.sweep_early.Goals as goal

pub rise-requires-clause-swept : goal.rise-requires-clause-swept
rise-requires-clause-swept c =
    let t = c.args.clocked.now.system.now in
    let s = c.args.clocked.now.schedule.now in
    let filled = c.fill_early_starts.ensures in
    let early = c.fill_early_starts.new.room.early in
    let all = c.in_ok-stale.ensures in
    let same = c.count-count.ensures.value in
    let places : c.count-count.result ≤ room c.in_ok-stale.stale.words.items = all.places in
    record {
      rising = subst (λ (xs : List ℤ). AreRising t s xs early) (sym (ap (λ (r : Space). r.late) filled.kept))
          (rising-first t s c.count-count.ensures.kept c.args.room.now.late c.requires.late early filled.count filled.each);
      met = λ l h out. absurd (out (all.all l (omega (arith, same))));
      places = omega (arith, same, places);
      few = all.few;
    }
