use Rattle.std.proofs.Common.{arith, ◌≤◌, ℕ, List, map, length, sym, ap, ◌∙◌, subst}
use Rattle.std.proofs.lemmas.Grind.{common_steps}
use Rattle.std.proofs.lemmas.List.{take_all}
use Rattle.std.proofs.lemmas.Simd.{map-map}
use Rattle.mintc_netlist.specs.Connections.{port_of}
use Rattle.mintc_flatten_hierarchy.specs.Hierarchies.{top_port}
use Rattle.mintc_flatten.proofs.ports.top_ports.Goals as goal

pub returns : goal.returns
returns c =
    let m = c.args.module.now in
    let past : length m.ports ≤ c.loop-name.name-index = subst (λ (ns : List (List ℕ)). length ns ≤ c.loop-name.name-index) c.items-name-items.ensures c.loop-name-test.false in
    c.loop-name.invariant
    ∙ ap (map (λ (name : List ℕ). top_port (port_of m name))) (take_all c.loop-name.name-index m.ports past)
    ∙ sym (map-map top_port (port_of m) m.ports)

pub loop-name-preserved : goal.loop-name-preserved
loop-name-preserved c = grind (arith, common_steps)
