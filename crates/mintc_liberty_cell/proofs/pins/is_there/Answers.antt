use Rattle.std.proofs.Common.{◌||◌, ◌+◌, drop, sym, ap, ◌∙◌}
use Rattle.mintc_liberty_cell.specs.Expressions.{is_among}
use Rattle.mintc_liberty_cell.specs.Meaning.{names}
use Rattle.mintc_liberty_cell.specs.Seen.{pins_seen}
use Rattle.mintc_liberty_cell.proofs.SeenLaws.{next-pin}
use Rattle.mintc_liberty_cell.proofs.pins.is_there.Goals as goal

pub returns-then-eq : goal.returns-then-eq
returns-then-eq c =
    let next = next-pin c.args.pins.now c.loop-pin.pin-index c.pin-item.result c.loop-pin-test.true c.pin-item.is in
    sym (c.loop-pin.invariant ∙ ap (λ qs. is_among (names qs) c.args.name.now) next
    ∙ ap (λ b. b || is_among (names (pins_seen (drop (c.loop-pin.pin-index + 1) c.args.pins.now))) c.args.name.now) (sym c.if-eq.ensures))

pub loop-pin-preserved : goal.loop-pin-preserved
loop-pin-preserved c =
    let next = next-pin c.args.pins.now c.loop-pin.pin-index c.pin-item.result c.loop-pin-test.true c.pin-item.is in
    c.loop-pin.invariant ∙ ap (λ qs. is_among (names qs) c.args.name.now) next
    ∙ ap (λ b. b || is_among (names (pins_seen (drop (c.loop-pin.pin-index + 1) c.args.pins.now))) c.args.name.now) (sym c.if-eq.ensures)
