use Rattle.std.proofs.Common.{◌++◌, ◌∷◌, [], map, option_map, ap, ◌∙◌}
use Rattle.mintc_liberty_tokens.specs.Tokens.{is_item, names_in}
use Rattle.mintc_liberty_tokens.specs.Statements.{taken}
use Rattle.mintc_liberty_cell.specs.Passing.{value_bytes}
use Rattle.mintc_liberty_cell.specs.Meaning.{are_pins, pin_with}
use Rattle.mintc_liberty_cell.specs.Seen.{pins_seen, group_seen}
use Rattle.mintc_liberty_cell.proofs.PinLaws.{fails-with-more}
use Rattle.mintc_liberty_tokens.proofs.SharedPassingLaws.{second-way}
use Rattle.mintc_liberty_cell.proofs.SeenLaws.{group-pins, name-step}
use Rattle.mintc_liberty_cell.proofs.pins.add_pins.Goals as goal

pub returns-then-not-branch : goal.returns-then-not-branch
returns-then-not-branch c =
    let f = option_map value_bytes c.last_value-function.result in
    let r = c.role_of-role.result in
    let old = pins_seen c.args.pins.now.items in
    let all = group-pins (group_seen c.args.room c.args.group.now) r f c.copy-items.result c.if-not-has_pins.ensures c.role_of-role.ensures c.last_value-function.ensures (ap (taken is_item) c.copy-items.ensures) in
    let rest = names_in (taken is_item c.next_name.new.items) in
    let step =
    name-step (old ++ map (pin_with r f) (names_in (taken is_item c.copy-items.result))) (pins_seen c.loop-name.pins.items) r f (names_in (taken is_item c.loop-name.items)) c.in-Some.name.now rest
    c.loop-name.invariant.same c.in-Some.ensures.some in
    ap are_pins (ap (λ ps. old ++ ps) all ∙ step) ∙ fails-with-more (pins_seen c.loop-name.pins.items ++ pin_with r f c.in-Some.name.now ∷ []) (map (pin_with r f) rest) (second-way _ _ c.in_ok-add_pin.field-0 c.in_ok-add_pin.ensures c.if-not-branch.true)
