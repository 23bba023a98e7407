use Rattle.std.proofs.Common.{Some, None, take, refl, ◌∙◌}
use Rattle.mintc_flatten_binding.specs.NetsOfModules.{source_in}
use Rattle.mintc_flatten_hierarchy.specs.Faults.{is_second_driver}
use Rattle.mintc_flatten_rules.proofs.ItemLaws.{item-found, items-none, item-passed, own-passed, binding_read, binding_there}
use Rattle.mintc_flatten_rules.proofs.DriveLaws.{item_driven, items_more}
use Rattle.mintc_flatten_rules.proofs.two_drivers.Driven.first_again.Goals as goal

pub returns-then-branch : goal.returns-then-branch
returns-then-branch c =
    let s = source_in c.args.site.now.source in
    let m = c.args.site.now.module_nets.part.now in
    let is = c.items-items.result.now in
    let n = c.loop-number.number in
    let i = c.index-items-number.result in
    own-passed (is_second_driver s) m (Some c.entry.result) refl
    (item-found (is_second_driver s) m is n i c.entry.result c.loop-number-test.true c.index-items-number.is c.items-items.ensures c.loop-number.invariant.left
    (item_driven s m (take n is) i c.loop-number.self c.in_ok-drive_item.field-0 c.loop-number.invariant.driven c.in_ok-drive_item.ensures.again ∙ c.if-branch.true) c.entry.ensures)

pub loop-number-preserved : goal.loop-number-preserved
loop-number-preserved c =
    let s = source_in c.args.site.now.source in
    let m = c.args.site.now.module_nets.part.now in
    let is = c.items-items.result.now in
    let n = c.loop-number.number in
    let i = c.index-items-number.result in
    record {
      driven = items_more s m is n i c.loop-number.self c.drive_item.new.self c.loop-number-test.true c.index-items-number.is c.loop-number.invariant.driven (c.in_ok-drive_item.ensures.marked c.if-branch.false);
      left = item-passed (is_second_driver s) m is n i _ c.loop-number-test.true c.index-items-number.is c.loop-number.invariant.left
          (item_driven s m (take n is) i c.loop-number.self c.in_ok-drive_item.field-0 c.loop-number.invariant.driven c.in_ok-drive_item.ensures.again ∙ c.if-branch.false);
    }

pub returns : goal.returns
returns c =
    let s = source_in c.args.site.now.source in
    own-passed (is_second_driver s) c.args.site.now.module_nets.part.now None refl (items-none (is_second_driver s) c.args.site.now.module_nets.part.now c.items-items.result.now c.loop-number.number c.loop-number-test.false c.items-items.ensures c.loop-number.invariant.left)

pub drive_item-requires-clause-binding : goal.drive_item-requires-clause-binding
drive_item-requires-clause-binding c =
    binding_read (source_in c.args.site.now.source) c.args.site.now.module_nets.part.now c.args.bindings.now c.items-items.result.now c.loop-number.number c.index-items-number.result _
    c.requires.bindings c.items-items.ensures c.loop-number-test.true c.index-items-number.is

pub drive_item-requires-clause-there : goal.drive_item-requires-clause-there
drive_item-requires-clause-there c =
    binding_there (source_in c.args.site.now.source) c.args.site.now.module_nets.part.now c.args.bindings.now c.items-items.result.now c.loop-number.number c.index-items-number.result _
    c.requires.bindings c.items-items.ensures c.loop-number-test.true c.index-items-number.is
