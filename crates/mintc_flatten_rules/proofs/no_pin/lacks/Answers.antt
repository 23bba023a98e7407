use Rattle.std.proofs.Common.{ℕ, List, sym, ap, ◌∙◌}
use Rattle.mintc_flatten_hierarchy.specs.Sources.{source_of}
use Rattle.mintc_flatten_rules.specs.Lacking.{lacks_any, lacks_item}
use Rattle.mintc_flatten_rules.proofs.LackLaws.{lacks_set}
use Rattle.mintc_flatten_rules.proofs.no_pin.lacks.Goals as goal

pub returns-in-Port : goal.returns-in-Port
returns-in-Port c =
    c.lacks_any.ensures
    ∙ ap (λ (wanted : List (List ℕ)). lacks_any c.args.own.now wanted) c.items.ensures
    ∙ ap (λ (names : List (List ℕ)). lacks_any names c.in-Port.names) c.requires.own
    ∙ lacks_set c.args.part.now.ports c.in-Port.names
    ∙ ap (lacks_item (source_of c.args.netlist.now.cells.now c.args.netlist.now.modules.now) c.args.part.now) (sym c.in-Port.is)
