use Rattle.std.proofs.Common.{length}
use Rattle.mintc_adjacency.specs.Adjacency.{AreLinked}
use Rattle.mintc_timing.specs.Paths.{arc_at}
use Rattle.mintc_paths.proofs.rows.arcs_by_row.Given as goal

-- the arcs so far are linked
abbrev pub invariant-loop-place : goal.invariant-loop-place
invariant-loop-place l = AreLinked (λ place. (arc_at l.along place).from) l.rows (length l.along) l.place l.leaving
