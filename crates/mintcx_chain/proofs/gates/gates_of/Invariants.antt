use Rattle.std.proofs.Common.{◌≡◌, take}
use Rattle.mintcx_chain.specs.Gates.{gates_of}
use Rattle.mintcx_chain.proofs.gates.gates_of.Given as goal

-- the gates of the arcs so far
abbrev pub invariant-loop-number : goal.invariant-loop-number
invariant-loop-number l = l.gates.items ≡ gates_of l.flat (take l.number-index l.arcs)
