use Rattle.std.proofs.Common.{Some, sym, ap, ◌∙◌}
use Rattle.mintc_sdf_tokens.specs.Items.{items}
use Rattle.mintc_sdf.proofs.SharedCarriedLaws.{passed-on}
use Rattle.mintc_sdf_edges.proofs.PortLaws.{heading-none, heading-one, heading-half, heading-two}
use Rattle.mintc_sdf_edges.proofs.ports.heading.Goals as goal

pub returns-in_err-first : goal.returns-in_err-first
returns-in_err-first c =
    passed-on c.from_residual.result c.in_err-first.field-0.0 _ _ _ c.from_residual.ensures.1 (λ e. heading-none c.args.two (items c.args.reader.now) e) c.in_err-first.ensures

pub returns-then-not-two : goal.returns-then-not-two
returns-then-not-two c =
    (heading-one c.args.two _ _ _ c.if-not-two.true c.in_ok-first.ensures.0 ∙ ap (λ e. Some (e, items c.port.new.reader)) (sym c.both_edges.ensures), c.in_ok-first.ensures.1)

pub returns-in_err-_second : goal.returns-in_err-_second
returns-in_err-_second c =
    passed-on c.from_residual-in_err-_second.result c.in_err-_second.field-0.0 _ _ _ c.from_residual-in_err-_second.ensures.1 (λ e. heading-half c.args.two _ _ _ c.if-not-two.false c.in_ok-first.ensures.0 e) c.in_err-_second.ensures

pub returns : goal.returns
returns c = (heading-two c.args.two _ _ _ _ _ c.if-not-two.false c.in_ok-first.ensures.0 c.in_ok-_second.ensures.0, c.in_ok-_second.ensures.1 ∙ c.in_ok-first.ensures.1)
