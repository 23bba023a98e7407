use Rattle.std.proofs.Common.{Some, sym, ap, ◌∙◌}
use Rattle.mintc_sdf_tokens.specs.Items.{items}
use Rattle.mintc_sdf_tokens.specs.Reading.{after_opening}
use Rattle.mintc_sdf.proofs.SharedCarriedLaws.{carried, passed-on}
use Rattle.mintc_sdf_edges.proofs.PortLaws.{port-word, port-none, port-bad, port-list}
use Rattle.mintc_sdf_edges.proofs.ports.port.Goals as goal

pub returns-in-Some : goal.returns-in-Some
returns-in-Some c =
    let p = port-word c.args.reader.now c.word.new.self c.in-Some._name.now c.in-Some.ensures.some in
    (p.0 ∙ ap (λ e. Some (e, items c.word.new.self)) (sym c.both_edges.ensures), p.1)

pub returns-in_err-read_opening : goal.returns-in_err-read_opening
returns-in_err-read_opening c =
    passed-on c.from_residual.result c.in_err-read_opening.field-0.0 _ _ _ c.from_residual.ensures.1 (λ e. port-none c.args.reader.now c.in_default.ensures.none.0 (ap after_opening (sym c.in_default.ensures.none.1) ∙ e)) c.in_err-read_opening.ensures

pub returns : goal.returns
returns c =
    let opened = ap after_opening (sym c.in_default.ensures.none.1) ∙ c.in_ok-read_opening.ensures in
    carried c.inner_port.result _ _ _ _ (λ n e. port-list c.args.reader.now c.read_opening.new.reader c.inner_port.new.reader n opened e)
    (λ e. port-bad c.args.reader.now c.read_opening.new.reader opened e) c.inner_port.ensures
