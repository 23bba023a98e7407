use Rattle.std.proofs.Common.{◌≡◌, map, take}
use Rattle.std.specs.Bool.{OnTrue}
use Rattle.mintc_annotate.specs.Searches.{doubled_jump}
use Rattle.mintc_annotate.proofs.searching.twice_as_far.Given as goal

abbrev pub invariant-loop-jump : goal.invariant-loop-jump
invariant-loop-jump l = (l.found.items ≡ map (doubled_jump l.jumps) (take l.jump-index l.jumps))
    × OnTrue l.ended (map (doubled_jump l.jumps) (take l.jump-index l.jumps) ≡ take l.jump-index l.jumps)
