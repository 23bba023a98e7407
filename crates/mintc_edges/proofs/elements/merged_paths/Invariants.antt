use Rattle.std.proofs.Common.{◌≡◌, map}
use Rattle.std.specs.List.{range_with_len}
use Rattle.mintc_edges.specs.Numbers.{widest}
use Rattle.mintc_edges.specs.Spreads.{all_said}
use Rattle.mintc_edges.specs.Stored.{output_told}
use Rattle.mintc_edges.proofs.elements.merged_paths.Given as goal

abbrev pub invariant-loop-output : goal.invariant-loop-output
invariant-loop-output l = l.found ≡ widest (map (λ k. all_said (output_told l.apart.told.now l.stored l.from k)) (range_with_len 0 l.output))
