use Rattle.std.proofs.Common.{◌≡◌, ℕ, List, map, take}
use Rattle.mintc_netlist.specs.Connections.{port_of}
use Rattle.mintc_flatten_hierarchy.specs.Hierarchies.{top_port}
use Rattle.mintc_flatten.proofs.ports.top_ports.Given as goal

-- the ports so far
abbrev pub invariant-loop-name : goal.invariant-loop-name
invariant-loop-name l = l.ports.items ≡ map (λ (name : List ℕ). top_port (port_of l.«module» name)) (take l.name-index l.«module».ports)
