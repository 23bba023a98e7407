use Rattle.std.proofs.Common.{sym, refl, ◌∙◌}
use Rattle.mintc_flatten_hierarchy.specs.Sources.{source_of}
use Rattle.mintc_flatten_hierarchy.specs.Faults.{is_no_module}
use Rattle.mintc_flatten_rules.proofs.FirstLaws.{first-found, first-none}
use Rattle.mintc_flatten_rules.proofs.no_module.first_missing.Goals as goal

pub returns-then-is_missing : goal.returns-then-is_missing
returns-then-is_missing c =
    first-found (is_no_module (source_of c.args.cells.now c.args.modules.now)) c.args.module.now c.items-items.result.now c.loop-number.number c.index-items-number.result c.entry.result
    c.loop-number-test.true c.index-items-number.is c.items-items.ensures refl c.loop-number.invariant (sym c.is_missing.ensures ∙ c.if-is_missing.true) c.entry.ensures

pub returns : goal.returns
returns c =
    first-none (is_no_module (source_of c.args.cells.now c.args.modules.now)) c.args.module.now c.items-items.result.now c.loop-number.number
    c.loop-number-test.false c.items-items.ensures refl c.loop-number.invariant
