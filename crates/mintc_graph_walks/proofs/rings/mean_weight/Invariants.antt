use Rattle.std.proofs.Common.{◌<◌, ◌*◌, ◌^◌, length}
use Rattle.mintc_graph_walks.specs.Bounds.{IsWithin}
use Rattle.mintc_graph_walks.proofs.rings.mean_weight.Given as goal

abbrev pub invariant-loop-len : goal.invariant-loop-len
invariant-loop-len g l = (l.node < length l.before) × IsWithin (l.len * 2 ^ 80) l.weight
