use Rattle.std.proofs.Common.{◌+◌, drop, ap, ◌∙◌}
use Rattle.mintc_liberty_cell.specs.Expressions.{is_among}
use Rattle.mintc_liberty_cell.specs.Meaning.{inputs}
use Rattle.mintc_liberty_cell.specs.Seen.{pins_seen}
use Rattle.mintc_liberty_cell.proofs.SeenLaws.{next-pin, is-input}
use Rattle.mintc_liberty_cell.proofs.expressions.input_named.Goals as goal

pub returns-then-is_input-clause-some : goal.returns-then-is_input-clause-some
returns-then-is_input-clause-some c =
    let next = next-pin c.args.pins.now c.loop-pin.pin-index c.pin-item.result c.loop-pin-test.true c.pin-item.is in
    let there = is-input c.pin-item.result c.args.name.now (pins_seen (drop (c.loop-pin.pin-index + 1) c.args.pins.now)) c.if-is_input.ensures in
    (c.loop-pin.invariant ∙ ap (λ qs. is_among (inputs qs) c.args.name.now) next ∙ there.0, there.1)
