use Rattle.std.proofs.Common.{◌≡◌, IfNone, IfSome, None, Some, option_map, ap, sym, subst, ◌∙◌, arith}
use Rattle.mintc_liberty_cell.specs.Expressions.{stripped, literal, expression}
use Rattle.mintc_liberty_cell.specs.Meaning.{inputs}
use Rattle.mintc_liberty_cell.specs.Passing.{value_bytes}
use Rattle.mintc_liberty_cell.specs.Seen.{pins_seen}
use Rattle.mintc_liberty_cell.proofs.ExpressionLaws.{too-long, peeled-part}
use Rattle.mintc_liberty_cell.proofs.ParenthesesLaws.{pairs-room}
use Rattle.mintc_liberty_cell.proofs.expressions.expression.Goals as goal
use Rattle.mintc_liberty_cell.proofs.expressions.expression.Goals.{After-drop-bytes}

pub overflow_sub-size : goal.overflow_sub-size
overflow_sub-size c =
    let room = pairs-room (stripped (value_bytes c.in-Some.value)) in
    let count = c.in_ok-count-in-Some.ensures in
    let size = c.in_ok-size-in-Some.ensures in
    omega (arith, room.1, count, size)

pub overflow_sub-size-in-Some : goal.overflow_sub-size-in-Some
overflow_sub-size-in-Some c =
    let room = pairs-room (stripped (value_bytes c.in-Some.value)) in
    let count = c.in_ok-count-in-Some.ensures in
    let size = c.in_ok-size-in-Some.ensures in
    omega (arith, room.1, count, size)

pub returns-then-not-fits-clause-none : goal.returns-then-not-fits-clause-none
returns-then-not-fits-clause-none c =
    let ins = inputs (pins_seen c.args.pins.now) in
    ap (λ o. expression ins (option_map value_bytes o)) c.in-Some.is
    ∙ too-long ins (stripped (value_bytes c.in-Some.value)) c.in_ok-count-in-Some.count c.in_ok-size-in-Some.field-0
    c.in_ok-count-in-Some.ensures c.in_ok-size-in-Some.ensures (sym c.if-not-fits.ensures)

same : (c : After-drop-bytes) → literal (inputs (pins_seen c.args.pins.now)) c.deref.result.now ≡ expression (inputs (pins_seen c.args.pins.now)) (option_map value_bytes c.args.value.now)
same c =
    let ins = inputs (pins_seen c.args.pins.now) in
    ap (literal ins) (c.deref.ensures.value ∙ c.in_ok-bytes-in-Some.ensures
    ∙ peeled-part (stripped (value_bytes c.in-Some.value)) c.in_ok-count-in-Some.count c.in_ok-size-in-Some.field-0 c.in_ok-count-in-Some.ensures c.in_ok-size-in-Some.ensures)
    ∙ sym (ap (λ o. expression ins (option_map value_bytes o)) c.in-Some.is)

pub returns-in_ok-bytes-in-Some-clause-none : goal.returns-in_ok-bytes-in-Some-clause-none
returns-in_ok-bytes-in-Some-clause-none c = subst (λ e. IfNone c.literal_of.result (e ≡ None)) (same c) c.literal_of.ensures.none

pub returns-in_ok-bytes-in-Some-clause-some : goal.returns-in_ok-bytes-in-Some-clause-some
returns-in_ok-bytes-in-Some-clause-some c = subst (λ e. IfSome c.literal_of.result (λ l. e ≡ Some (l.name.now, l.is_plain))) (same c) c.literal_of.ensures.some
