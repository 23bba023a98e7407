use Rattle.std.proofs.Common.{◌≡◌, ◌++◌, map, take, flat_map}
use Rattle.mintc_annotate.specs.Counts.{with_port}
use Rattle.mintc_annotate.specs.Made.{port_element}
use Rattle.mintc_edges.specs.Edges.{each_edge}
use Rattle.mintc_edges.specs.Apart.{named_at}
use Rattle.mintc_edges.proofs.elements.push_ports.Given as goal

abbrev pub invariant-loop-at : goal.invariant-loop-at
invariant-loop-at l = l.found.items ≡ l.initial.found.items ++ flat_map (λ x. each_edge (λ e. named_at e (port_element l.names x))) (map (with_port l.listed) (take l.at-index l.bits))
