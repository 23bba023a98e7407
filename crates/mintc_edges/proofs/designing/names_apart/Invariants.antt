use Rattle.std.proofs.Common.{◌≡◌, flat_map, take}
use Rattle.mintc_edges.specs.Edges.{each_edge, edge_name}
use Rattle.mintc_edges.proofs.designing.names_apart.Given as goal

abbrev pub invariant-loop-name : goal.invariant-loop-name
invariant-loop-name l = l.found.items ≡ flat_map (λ name. each_edge (edge_name name)) (take l.name-index l.names)
