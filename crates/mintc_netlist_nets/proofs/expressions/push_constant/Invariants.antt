use Rattle.std.proofs.Common.{◌≡◌, ◌++◌, replicate, None}
use Rattle.mintc_netlist_nets.proofs.expressions.push_constant.Given as goal

-- so many bits are taken in
abbrev pub invariant-loop-turn : goal.invariant-loop-turn
invariant-loop-turn l = l.places.items ≡ l.initial.places.items ++ replicate l._turn None
