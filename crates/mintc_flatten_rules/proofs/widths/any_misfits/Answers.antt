use Rattle.std.proofs.Common.{◌≤◌, ◌<◌, ℕ, subst}
use Rattle.std.specs.List.{list_any}
use Rattle.mintc_netlist.specs.Connections.{wirings_of}
use Rattle.mintc_flatten_hierarchy.specs.Sources.{binding_pins}
use Rattle.mintc_flatten_binding.specs.NetsOfModules.{source_in}
use Rattle.mintc_flatten_hierarchy.specs.Faults.{is_wired_badly}
use Rattle.mintc_flatten_rules.proofs.WidthLaws.{pin_passed, pin_found, pins_passed}
use Rattle.mintc_flatten_rules.proofs.widths.any_misfits.Goals as goal

pub loop-number-preserved : goal.loop-number-preserved
loop-number-preserved c =
    let s = source_in c.args.site.now.source in
    let pins = binding_pins s c.args.instance.now.binding in
    let k = c.loop-number.number in
    pin_passed (is_wired_badly c.args.site.now.module_nets.part.now) c.args.instance.now.item.now s c.args.instance.now.binding k c.in_ok-pin_misfits.field-0 (list_any (is_wired_badly c.args.site.now.module_nets.part.now) (wirings_of c.args.instance.now.item.now pins))
    (subst (λ (n : ℕ). k < n) c.in_ok-count.ensures c.loop-number-test.true) c.in_ok-pin_misfits.ensures c.if-branch.false c.loop-number.invariant

pub returns-then-branch : goal.returns-then-branch
returns-then-branch c =
    let s = source_in c.args.site.now.source in
    let pins = binding_pins s c.args.instance.now.binding in
    let k = c.loop-number.number in
    pin_found (is_wired_badly c.args.site.now.module_nets.part.now) c.args.instance.now.item.now s c.args.instance.now.binding k c.in_ok-pin_misfits.field-0 (list_any (is_wired_badly c.args.site.now.module_nets.part.now) (wirings_of c.args.instance.now.item.now pins))
    (subst (λ (n : ℕ). k < n) c.in_ok-count.ensures c.loop-number-test.true) c.in_ok-pin_misfits.ensures c.if-branch.true c.loop-number.invariant

pub returns : goal.returns
returns c =
    let pins = binding_pins (source_in c.args.site.now.source) c.args.instance.now.binding in
    pins_passed (is_wired_badly c.args.site.now.module_nets.part.now) c.args.instance.now.item.now pins c.loop-number.number (list_any (is_wired_badly c.args.site.now.module_nets.part.now) (wirings_of c.args.instance.now.item.now pins))
    (subst (λ (n : ℕ). n ≤ c.loop-number.number) c.in_ok-count.ensures c.loop-number-test.false) c.loop-number.invariant
