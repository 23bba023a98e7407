use Rattle.std.proofs.Common.{refl}
use Rattle.mintc_timing.specs.Paths.{arc_at}
use Rattle.mintc_paths.proofs.rows.arcs_by_row.Goals as goal

pub loop-place-preserved : goal.loop-place-preserved
loop-place-preserved c = c.add.ensures (λ place. (arc_at c.args.along.now place).from) refl _ _ c.loop-place.invariant
