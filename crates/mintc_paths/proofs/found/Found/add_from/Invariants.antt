use Rattle.std.proofs.Common.{◌≡◌}
use Rattle.mintc_paths.proofs.SharedFinding.{IsFoundToEnd}
use Rattle.mintc_paths.proofs.found.Found.add_from.Given as goal

-- the pairs before this end
abbrev pub invariant-loop-number : goal.invariant-loop-number
invariant-loop-number g l = record {
  found : IsFoundToEnd g.design l.element l.fn.self.ends.items l.number l.self;
  ends : l.self.ends.items ≡ l.fn.self.ends.items;
  most : l.self.most ≡ l.fn.self.most;
}
