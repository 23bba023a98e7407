use Rattle.std.proofs.Common.{◌≡◌, map, length, get_or, sym, ap, ◌∙◌}
use Rattle.std.proofs.lemmas.List.{get_or_read}
use Rattle.mintc_netlist.specs.declared.module.Module.{Module}
use Rattle.mintc_netlist.specs.Connections.{ports_of}
use Rattle.mintc_flatten_hierarchy.specs.Sources.{module_at, no_module}
use Rattle.mintc_flatten_binding.specs.NetsOfModules.{source_in}
use Rattle.mintc_flatten_hierarchy.specs.Walks.{place_at, steps_from, inside}
use Rattle.mintc_flatten_hierarchy.specs.Hierarchies.{top_port}
use Rattle.mintc_flatten.specs.Growing.{Lists, sizes, grown_all}
use Rattle.mintc_flatten.proofs.GrowingLaws.{walked, finished}
use Rattle.mintc_flatten.proofs.walk.hierarchy.Goals as goal

pub returns : goal.returns
returns c =
    let s = source_in c.args.source.now in
    let top = c.args.top in
    let m : get_or s.modules top c.index-source-top.result ≡ module_at s top = sym c.index-source-top.is ∙ get_or_read c.args.source.now.modules.now top c.index-source-top.result c.requires.top c.index-source-top.is no_module in
    let grew = c.in_ok-enter.ensures ∙ ap (λ (l : Lists). grown_all s l (steps_from s (inside s (length s.modules)) (place_at (module_at s top) 0 0) (sizes l) (module_at s top).items)) c.in_ok-walk.ensures in
    finished s top c.finish.result c.enter.new.self c.finish.ensures.scopes c.finish.ensures.leaves c.finish.ensures.inner c.finish.ensures.joins
    (c.finish.ensures.ports ∙ c.in_ok-ports.ensures ∙ ap (λ (x : Module). map top_port (ports_of x)) m)
    (walked s top c.enter.new.self grew)
