use Rattle.std.proofs.Common.{Some, false, refl, sym, ap, ◌∙◌}
use Rattle.mintc_sdf_tokens.proofs.SharedInsideLaws.{needs-word}
use Rattle.mintc_sdf_edges.specs.Edges.{inner_edge}
use Rattle.mintc_sdf.proofs.SharedCarriedLaws.{passed-on}
use Rattle.mintc_sdf.proofs.SharedFoundLaws.{plain-word, plain-port}
use Rattle.mintc_sdf_edges.proofs.PortLaws.{edge-open, edge-done}
use Rattle.mintc_sdf_edges.proofs.ports.edge_port.Goals as goal

pub returns-in_err-edge : goal.returns-in_err-edge
unfolding inner_edge
returns-in_err-edge c = passed-on c.from_residual.result c.in_err-edge.field-0.0 _ _ _ c.from_residual.ensures.1 (needs-word inner_edge c.args.reader.now refl (λ _ _. refl) (λ _ _. refl)) c.in_err-edge.ensures

pub returns-in_err-pass_rest : goal.returns-in_err-pass_rest
returns-in_err-pass_rest c =
    let plain = plain-port c.in_ok-edge.edge.now (plain-word false c.args.reader.now c.read_word.new.reader c.in_ok-edge.edge.now c.in_ok-edge.ensures c.requires.plain) in
    passed-on c.from_residual-in_err-pass_rest.result c.in_err-pass_rest.field-0.0 _ _ _ c.from_residual-in_err-pass_rest.ensures.1 (λ e. edge-open c.args.reader.now c.read_word.new.reader c.in_ok-edge.edge.now c.in_ok-edge.ensures plain e) c.in_err-pass_rest.ensures

pub returns : goal.returns
returns c =
    let plain = plain-port c.in_ok-edge.edge.now (plain-word false c.args.reader.now c.read_word.new.reader c.in_ok-edge.edge.now c.in_ok-edge.ensures c.requires.plain) in
    edge-done c.args.reader.now c.read_word.new.reader c.pass_rest.new.reader c.in_ok-edge.edge.now c.in_ok-edge.ensures plain c.in_ok-pass_rest.ensures
    ∙ ap (λ e. Some (e, c.pass_rest.new.reader)) (sym c.edge_of.ensures)
