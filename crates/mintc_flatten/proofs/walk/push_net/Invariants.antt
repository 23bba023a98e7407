use Rattle.std.proofs.Common.{◌≡◌, ◌++◌, Some, map, take}
use Rattle.mintc_netlist.specs.Nets.{bit_of, indexes}
use Rattle.mintc_flatten_hierarchy.specs.Hierarchies.{net_of}
use Rattle.mintc_flatten.proofs.walk.push_net.Given as goal

-- the bits so far are taken in
abbrev pub invariant-loop-number : goal.invariant-loop-number
invariant-loop-number l = l.inner.items ≡ l.initial.inner.items ++ map (λ i. net_of l.scope (bit_of l.name (Some i))) (take l.number (indexes l.span))
