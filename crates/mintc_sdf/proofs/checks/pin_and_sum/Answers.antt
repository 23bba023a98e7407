use Rattle.std.proofs.Common.{option_map, ◌∙◌}
use Rattle.mintc_sdf.specs.Forms.{claim, lone_value}
use Rattle.mintc_sdf.proofs.SharedCarriedLaws.{passed-on}
use Rattle.mintc_sdf.proofs.ClaimLaws.{map-none, ports-none, ports-go, pin-done}
use Rattle.mintc_sdf.proofs.checks.pin_and_sum.Goals as goal

pub returns-in_err-pin : goal.returns-in_err-pin
returns-in_err-pin c = λ s. passed-on c.from_residual.result c.in_err-pin.field-0.0 _ _ _ c.from_residual.ensures.1 (ports-none (λ pin is. option_map (claim (s pin)) (lone_value is)) c.args.reader.now) c.in_err-pin.ensures

pub returns-in_err-sum : goal.returns-in_err-sum
returns-in_err-sum c = λ s.
    passed-on c.from_residual-in_err-sum.result c.in_err-sum.field-0.0 _ _ _ c.from_residual-in_err-sum.ensures.1 (λ e. ports-go (λ pin is. option_map (claim (s pin)) (lone_value is)) c.args.reader.now c.first_port.new.reader c.in_ok-pin.pin c.in_ok-pin.ensures ∙ map-none (claim (s c.in_ok-pin.pin)) lone_value c.first_port.new.reader e) c.in_err-sum.ensures

pub returns : goal.returns
returns c = λ s n.
    pin-done c.args.scale s c.in_ok-sum.sum c.args.reader.now c.first_port.new.reader c.lone_value.new.reader c.in_ok-pin.pin n c.in_ok-pin.ensures c.in_ok-sum.ensures
