use Rattle.std.proofs.Common.{option_map, option_and_then, ap, ◌∙◌}
use Rattle.mintc_sdf_tokens.proofs.SharedInsideLaws.{inside-none}
use Rattle.mintc_sdf_tokens.specs.Reading.{inside}
use Rattle.mintc_sdf.specs.declared.delays.Subject.TheVariants as subject
use Rattle.mintc_sdf.specs.Forms.{lone_value, width, claim, port_at}
use Rattle.mintc_sdf.proofs.SharedCarriedLaws.{passed-on}
use Rattle.mintc_sdf.proofs.SharedListLaws.{at-goes}
use Rattle.mintc_sdf.proofs.ClaimLaws.{claim-some, map-none}
use Rattle.mintc_sdf.proofs.checks.width.Goals as goal

pub returns-in_err-pin : goal.returns-in_err-pin
returns-in_err-pin c =
    passed-on c.from_residual.result c.in_err-pin.field-0.0 _ _ _ c.from_residual.ensures.1 (λ e. inside-none width c.args.reader.now (ap (option_and_then (λ a. option_map (claim (subject.Width a.0)) (lone_value a.1))) e)) c.in_err-pin.ensures

pub returns-in_err-sum : goal.returns-in_err-sum
returns-in_err-sum c =
    passed-on c.from_residual-in_err-sum.result c.in_err-sum.field-0.0 _ _ _ c.from_residual-in_err-sum.ensures.1 (λ e. at-goes port_at (λ a. option_map (claim (subject.Width a.0)) (lone_value a.1)) c.args.reader.now c.port.new.reader c.in_ok-pin.pin c.in_ok-pin.ensures ∙ map-none (claim (subject.Width c.in_ok-pin.pin)) lone_value c.port.new.reader e) c.in_err-sum.ensures

pub returns : goal.returns
returns c =
    claim-some c.args.scale (subject.Width c.in_ok-pin.pin) c.in_ok-sum.sum lone_value (inside width c.args.reader.now) c.port.new.reader c.lone_value.new.reader
    (at-goes port_at (λ a. option_map (claim (subject.Width a.0)) (lone_value a.1)) c.args.reader.now c.port.new.reader c.in_ok-pin.pin c.in_ok-pin.ensures) c.in_ok-sum.ensures
