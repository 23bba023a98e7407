use Rattle.std.proofs.Common.{◌≡◌, drop, find}
use Rattle.mintc_netlist.specs.Connections.{is_to}
use Rattle.mintc_flatten_binding.proofs.connection_index.look_through.Given as goal

-- what is left has the first such connection
abbrev pub invariant-loop-number : goal.invariant-loop-number
invariant-loop-number l = find (is_to l.name) (drop l.number l.connections) ≡ find (is_to l.name) l.connections
