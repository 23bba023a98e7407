use Rattle.std.proofs.Common.{sym, ap}
use Rattle.std.specs.Option.{option_map}
use Rattle.mintc_text.specs.declared.refusals.Refusal.TheVariants as refusal
use Rattle.mintc_flatten_hierarchy.specs.Sources.{source_of}
use Rattle.mintc_flatten_rules.proofs.ChainLaws.{none_recursive}
use Rattle.mintc_flatten_rules.proofs.refusing.refuse_recursive.Goals as goal

pub returns-in-Ok-clause-passes : goal.returns-in-Ok-clause-passes
returns-in-Ok-clause-passes c =
    ap (option_map refusal.Recursive) (sym (none_recursive (source_of c.args.cells.now c.args.modules.now) c.in-Ok.order.items c.in-Ok.ensures.order c.in-Ok.ensures.whole c.requires.names))
