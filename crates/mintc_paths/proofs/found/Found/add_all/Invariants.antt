use Rattle.std.proofs.Common.{◌≡◌, ◌+◌, length}
use Rattle.mintc_paths.specs.Found.{AreEnds, IsFoundBefore}
use Rattle.mintc_paths.proofs.found.Found.add_all.Given as goal

-- the pairs of the lanes so far
abbrev pub invariant-loop-lane : goal.invariant-loop-lane
invariant-loop-lane g l = record {
  found : IsFoundBefore g.design (l.block.first + l.lane) 0 l.self;
  most : l.self.most ≡ l.fn.self.most;
  ends : AreEnds l.block.rows.now.of_bits.items l.block.sums.now (length g.design.elements) l.self.ends.items;
}

abbrev pub ghost-add_from : goal.ghost-add_from
ghost-add_from g a = g.design
