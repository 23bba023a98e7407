use Rattle.std.proofs.Common.{◌≡◌, ◌*◌, pos, ◌≤ℤ◌, take}
use Rattle.mintc_graph.specs.Rings.{total}
use Rattle.mintc_timing.specs.Paths.{Leads, output_of}
use Rattle.mintc_paths.specs.Trace.{weight_of}
use Rattle.mintc_paths.proofs.listed.is_listed_with.Given as goal

-- the arcs so far lead from the output to the bit, and have this sum
abbrev pub invariant-loop-number : goal.invariant-loop-number
invariant-loop-number l = record {
  leads : Leads l.arcs (output_of l.wanted.from) (take l.number-index l.path) l.bit;
  summed : total (weight_of l.wanted.extreme l.arcs) (take l.number-index l.path) ≡ l.summed;
  low : pos 0 ≤ℤ l.summed;
  high : l.summed ≤ℤ pos (l.number-index * 1000000000);
}
