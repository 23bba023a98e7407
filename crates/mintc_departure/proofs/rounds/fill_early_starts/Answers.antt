use Rattle.std.proofs.Common.{◌≡◌, length, set, arith, ap, ◌∙◌, to_z, of_z, w64, length-set}
use Rattle.std.proofs.lemmas.Int.{ints}
use Rattle.mintc_constraints.specs.Rooms.{Space}
use Rattle.mintc_departure.specs.Travels.{early_start_of}
use Rattle.mintc_departure.proofs.Filling.{filled-more, kept-early}
use Rattle.mintc_departure.proofs.rounds.fill_early_starts.Goals as goal

pub loop-number-preserved : goal.loop-number-preserved
loop-number-preserved c =
    let i = c.loop-number.invariant in
    let n = c.loop-number.number in
    let xs = c.loop-number.room.early in
    let x = c.early_start.result in
    let bits : to_z w64 (of_z w64 x) ≡ x = omega (arith, ints) in
    let written : c.set_early.new.self.early ≡ set xs n x = rw bits at (ap (λ (r : Space). r.early) c.set_early.ensures) in
    record {
      kept = kept-early c.args.room.now c.loop-number.room c.set_early.new.self _ c.set_early.ensures i.kept;
      count = ap length written ∙ length-set xs n x ∙ i.count;
      filled = filled-more (early_start_of c.args.clocked.now.system.now.flat c.args.clocked.now.schedule.now) xs c.set_early.new.self.early n x written (omega arith) c.early_start.ensures.value i.filled;
    }
