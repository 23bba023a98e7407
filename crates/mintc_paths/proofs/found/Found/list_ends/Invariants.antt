use Rattle.std.proofs.Common.{◌≡◌, List}
use Rattle.mintc_paths_sums.specs.declared.sums.Sums.{Sums}
use Rattle.mintc_paths.specs.Found.{AreEnds}
use Rattle.mintc_paths.specs.Sums.{AreMarked}
use Rattle.mintc_paths.proofs.found.Found.list_ends.Given as goal

-- the ends among the elements so far are listed
abbrev pub invariant-loop-to : goal.invariant-loop-to
invariant-loop-to l = record {
  ends : (sums : List Sums) → AreMarked sums l.reached → AreEnds l.rows.of_bits.items sums l.to l.self.ends.items;
  count : l.self.count ≡ l.fn.self.count;
  pairs : l.self.pairs.items ≡ l.fn.self.pairs.items;
  most : l.self.most ≡ l.fn.self.most;
}
