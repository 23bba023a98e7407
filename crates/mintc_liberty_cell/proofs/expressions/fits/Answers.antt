use Rattle.std.proofs.Common.{◌+◌, ◌||◌, nat_le, List, ℕ, length, drop, sym, ap, ◌∙◌}
use Rattle.std.specs.List.{list_any}
use Rattle.mintc_liberty_cell.specs.Meaning.{inputs}
use Rattle.mintc_liberty_cell.specs.Seen.{pins_seen}
use Rattle.mintc_liberty_cell.proofs.SeenLaws.{next-pin}
use Rattle.mintc_liberty_cell.proofs.ExpressionLaws.{inputs-any}
use Rattle.mintc_liberty_cell.proofs.expressions.fits.Goals as goal

pub returns-then-is_near : goal.returns-then-is_near
returns-then-is_near c =
    let test = λ (name : List ℕ). nat_le c.args.size (length name + 1) in
    let behind = pins_seen (drop (c.loop-pin.pin-index + 1) c.args.pins.now) in
    let next = next-pin c.args.pins.now c.loop-pin.pin-index c.pin-item.result c.loop-pin-test.true c.pin-item.is in
    sym (c.loop-pin.invariant ∙ ap (λ ps. list_any test (inputs ps)) next ∙ inputs-any test c.pin-item.result behind
    ∙ ap (λ b. b || list_any test (inputs behind)) (sym c.if-is_near.ensures))

pub loop-pin-preserved : goal.loop-pin-preserved
loop-pin-preserved c =
    let test = λ (name : List ℕ). nat_le c.args.size (length name + 1) in
    let behind = pins_seen (drop (c.loop-pin.pin-index + 1) c.args.pins.now) in
    let next = next-pin c.args.pins.now c.loop-pin.pin-index c.pin-item.result c.loop-pin-test.true c.pin-item.is in
    c.loop-pin.invariant ∙ ap (λ ps. list_any test (inputs ps)) next ∙ inputs-any test c.pin-item.result behind
    ∙ ap (λ b. b || list_any test (inputs behind)) (sym c.if-is_near.ensures)
