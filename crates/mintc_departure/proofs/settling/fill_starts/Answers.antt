use Rattle.std.proofs.Common.{◌≡◌, length, set, arith, ap, ◌∙◌, to_z, of_z, length-set}
use Rattle.std.specs.Int.{w128}
use Rattle.std.proofs.lemmas.Int.{ints}
use Rattle.mintc_constraints.specs.Rooms.{Space}
use Rattle.mintc_departure.specs.Networks.{late_start_of}
use Rattle.mintc_departure.proofs.Filling.{filled-more, kept-values}
use Rattle.mintc_departure.proofs.settling.fill_starts.Goals as goal

pub loop-number-preserved : goal.loop-number-preserved
loop-number-preserved c =
    let i = c.loop-number.invariant in
    let n = c.loop-number.number in
    let xs = c.loop-number.room.values in
    let x = c.late_start.result in
    let bits : to_z w128 (of_z w128 c.from.result) ≡ x = omega (arith, ints) in
    let written : c.set_values.new.self.values ≡ set xs n x = rw bits at (ap (λ (r : Space). r.values) c.set_values.ensures) in
    record {
      kept = kept-values c.args.room.now c.loop-number.room c.set_values.new.self _ c.set_values.ensures i.kept;
      count = ap length written ∙ length-set xs n x ∙ i.count;
      filled = filled-more (late_start_of c.args.clocked.now.system.now.flat c.args.clocked.now.schedule.now) xs c.set_values.new.self.values n x written (omega arith) c.late_start.ensures.value i.filled;
    }
