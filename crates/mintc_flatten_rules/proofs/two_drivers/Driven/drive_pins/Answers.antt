use Rattle.std.proofs.Common.{◌<◌, ◌≤◌, ◌+◌, ◌++◌, ℕ, List, false, length, take, drop, get_or, ap, subst, ◌∙◌}
use Rattle.std.proofs.lemmas.List.{take_all}
use Rattle.mintc_netlist.specs.Connections.{Pin}
use Rattle.mintc_flatten_hierarchy.specs.Sources.{binding_pins}
use Rattle.mintc_flatten_binding.specs.NetsOfModules.{source_in}
use Rattle.mintc_flatten_rules.specs.Driving.{pin_drives, drives_from, Drives}
use Rattle.mintc_flatten_binding.specs.Wired.{no_pin}
use Rattle.mintc_flatten_rules.proofs.DriveLaws.{step_again, step_passed, pins_more, pins_whole}
use Rattle.mintc_flatten_rules.proofs.two_drivers.Driven.drive_pins.Goals as goal

pub returns-then-branch : goal.returns-then-branch
returns-then-branch c =
    let m = c.args.site.now.module_nets.part.now in
    let i = c.args.instance.now.item.now in
    let pins = binding_pins (source_in c.args.site.now.source) c.args.instance.now.binding in
    let n = c.loop-number.number in
    let inside : n < length pins = subst (λ (k : ℕ). n < k) c.in_ok-count.ensures c.loop-number-test.true in
    step_again c.args.self.now c.loop-number.self c.drive_pin.new.self (drives_from m i 0 (take n pins)) (pin_drives m i n (get_or pins n no_pin))
    (drives_from m i (0 + length (take (n + 1) pins)) (drop (n + 1) pins)) (drives_from m i 0 pins) c.in_ok-drive_pin.field-0
    (pins_whole m i pins (n + 1) ∙ ap (λ (l : List ℕ). l ++ drives_from m i (0 + length (take (n + 1) pins)) (drop (n + 1) pins)) (pins_more m i pins n no_pin inside))
    c.loop-number.invariant c.in_ok-drive_pin.ensures c.if-branch.true

pub loop-number-preserved : goal.loop-number-preserved
loop-number-preserved c =
    let m = c.args.site.now.module_nets.part.now in
    let i = c.args.instance.now.item.now in
    let pins = binding_pins (source_in c.args.site.now.source) c.args.instance.now.binding in
    let n = c.loop-number.number in
    let inside : n < length pins = subst (λ (k : ℕ). n < k) c.in_ok-count.ensures c.loop-number-test.true in
    step_passed c.args.self.now c.loop-number.self c.drive_pin.new.self (drives_from m i 0 (take n pins)) (pin_drives m i n (get_or pins n no_pin))
    (drives_from m i 0 (take (n + 1) pins)) c.in_ok-drive_pin.field-0 (pins_more m i pins n no_pin inside) c.loop-number.invariant c.in_ok-drive_pin.ensures c.if-branch.false

pub returns : goal.returns
returns c =
    let m = c.args.site.now.module_nets.part.now in
    let i = c.args.instance.now.item.now in
    let pins = binding_pins (source_in c.args.site.now.source) c.args.instance.now.binding in
    subst (λ (ps : List Pin). Drives c.args.self.now c.loop-number.self (drives_from m i 0 ps) false)
    (take_all c.loop-number.number pins (subst (λ (k : ℕ). k ≤ c.loop-number.number) c.in_ok-count.ensures c.loop-number-test.false)) c.loop-number.invariant
