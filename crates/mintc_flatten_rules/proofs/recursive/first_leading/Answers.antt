use Rattle.std.proofs.Common.{[], Some, None, refl, sym, ap, ◌∙◌}
use Rattle.mintc_flatten_hierarchy.specs.Sources.{source_of}
use Rattle.mintc_flatten_hierarchy.specs.Faults.{leads_back, is_recursive}
use Rattle.mintc_flatten_rules.specs.Firsts.{first_after}
use Rattle.mintc_flatten_rules.proofs.ChainLaws.{own_binding}
use Rattle.mintc_flatten_rules.proofs.ItemLaws.{item-found, items-none, item-passed, own-passed}
use Rattle.mintc_flatten_rules.proofs.recursive.first_leading.Goals as goal

pub returns-then-branch : goal.returns-then-branch
returns-then-branch c =
    let s = source_of c.args.cells.now c.args.modules.now in
    let m = c.args.module_nets.now in
    let is = c.items-items.result.now in
    let n = c.loop-number.number in
    let i = c.index-items-number.result in
    own-passed (is_recursive s) m (Some c.entry.result) refl
    (item-found (is_recursive s) m is n i c.entry.result c.loop-number-test.true c.index-items-number.is c.items-items.ensures c.loop-number.invariant
    (sym (ap (leads_back s m) (own_binding s m c.args.own.now is n i _ c.requires.own c.items-items.ensures c.loop-number-test.true c.index-items-number.is)) ∙ sym c.in_ok-leads_back.ensures ∙ c.if-branch.true) c.entry.ensures)

pub loop-number-preserved : goal.loop-number-preserved
loop-number-preserved c =
    let s = source_of c.args.cells.now c.args.modules.now in
    let m = c.args.module_nets.now in
    let is = c.items-items.result.now in
    let n = c.loop-number.number in
    let i = c.index-items-number.result in
    item-passed (is_recursive s) m is n i (first_after (is_recursive s) m [] is) c.loop-number-test.true c.index-items-number.is c.loop-number.invariant
    (sym (ap (leads_back s m) (own_binding s m c.args.own.now is n i _ c.requires.own c.items-items.ensures c.loop-number-test.true c.index-items-number.is)) ∙ sym c.in_ok-leads_back.ensures ∙ c.if-branch.false)

pub returns : goal.returns
returns c =
    let s = source_of c.args.cells.now c.args.modules.now in
    own-passed (is_recursive s) c.args.module_nets.now None refl (items-none (is_recursive s) c.args.module_nets.now c.items-items.result.now c.loop-number.number c.loop-number-test.false c.items-items.ensures c.loop-number.invariant)
