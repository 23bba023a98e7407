use Rattle.std.proofs.Common.{◌≡◌, map}
use Rattle.std.specs.List.{range_with_len}
use Rattle.mintc_edges.specs.Numbers.{widest}
use Rattle.mintc_edges.specs.Stored.{along_kept}
use Rattle.mintc_edges.proofs.elements.paths_at.Given as goal

abbrev pub invariant-loop-output : goal.invariant-loop-output
invariant-loop-output l = l.found ≡ widest (map (along_kept l.apart.told.now l.apart.senses.now l.stored l.from l.edge) (range_with_len 0 l.output))
