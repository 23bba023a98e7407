use Rattle.std.proofs.Common.{◌≡◌, ◌++◌, map, take}
use Rattle.mintc_annotate.specs.Counts.{with_port}
use Rattle.mintc_annotate.specs.Made.{port_element}
use Rattle.mintc_annotate.proofs.elements.push_ports.Given as goal

abbrev pub invariant-loop-at : goal.invariant-loop-at
invariant-loop-at l = l.found.items ≡ l.initial.found.items ++ map (port_element l.names) (map (with_port l.listed) (take l.at-index l.bits))
