use Rattle.std.proofs.Common.{take}
use Rattle.mintc_flatten_binding.specs.Wired.{IsConnectedBy}
use Rattle.mintc_flatten_binding.proofs.connection_index.ConnectionIndex.by_pin_name.Given as goal

-- the connections so far are taken in
abbrev pub invariant-loop-number : goal.invariant-loop-number
invariant-loop-number l = IsConnectedBy l.connected (take l.number l.connections)
