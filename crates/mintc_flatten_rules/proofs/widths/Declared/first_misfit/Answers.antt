use Rattle.std.proofs.Common.{take, sym, refl, ◌∙◌}
use Rattle.mintc_flatten_binding.specs.NetsOfModules.{source_in}
use Rattle.mintc_flatten_hierarchy.specs.Faults.{is_misfit}
use Rattle.mintc_flatten_rules.proofs.FirstLaws.{first-found, first-none}
use Rattle.mintc_flatten_rules.proofs.widths.Declared.first_misfit.Goals as goal

pub returns-then-branch : goal.returns-then-branch
returns-then-branch c =
    let items = c.items-items.result.now in
    let n = c.loop-number.number in
    first-found (is_misfit (source_in c.args.site.now.source)) c.args.site.now.module_nets.part.now items n c.index-items-number.result c.entry.result
    c.loop-number-test.true c.index-items-number.is c.items-items.ensures refl c.loop-number.invariant.left
    (sym (c.in_ok-misfits.ensures (take n items) c.loop-number.invariant.declared) ∙ c.if-branch.true) c.entry.ensures

pub returns : goal.returns
returns c =
    first-none (is_misfit (source_in c.args.site.now.source)) c.args.site.now.module_nets.part.now c.items-items.result.now c.loop-number.number
    c.loop-number-test.false c.items-items.ensures refl c.loop-number.invariant.left
