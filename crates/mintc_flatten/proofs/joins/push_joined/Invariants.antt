use Rattle.std.proofs.Common.{◌≡◌, ◌++◌, drop}
use Rattle.mintc_flatten_hierarchy.specs.Hierarchies.{joined}
use Rattle.mintc_flatten.specs.Joining.{moved}
use Rattle.mintc_flatten.proofs.joins.push_joined.Given as goal

-- with the joins of the bits that are left there are as many as of all
abbrev pub invariant-loop-number : goal.invariant-loop-number
invariant-loop-number l =
    l.joins.items ++ joined (moved l.from_first (drop l.number l.froms)) (moved l.to_first (drop l.number l.tos)) ≡ l.initial.joins.items ++ joined (moved l.from_first l.froms) (moved l.to_first l.tos)
