use Rattle.std.proofs.Common.{sym, ap, ◌∙◌}
use Rattle.mintc_sdf_tokens.specs.Reading.{inside}
use Rattle.mintc_sdf_edges.specs.Spans.{value_spans}
use Rattle.mintc_sdf_edges.specs.Telling.{keep_all}
use Rattle.mintc_sdf.proofs.SharedCarriedLaws.{carried, passed-on}
use Rattle.mintc_sdf_edges.proofs.ItemLaws.{said-lost, said-apart, said-done, said-over}
use Rattle.mintc_sdf_edges.proofs.items.said.Goals as goal

pub returns-in_err-edge : goal.returns-in_err-edge
returns-in_err-edge c =
    passed-on c.from_residual.result c.in_err-edge.field-0.0 _ _ _ c.from_residual.ensures.1
    (λ e. said-lost c.args.telling.now c.args.key.now c.has_two_ports.result c.has_two_ports.ensures c.args.reader.now e) c.in_err-edge.ensures

pub returns-in_err-values : goal.returns-in_err-values
returns-in_err-values c =
    passed-on c.from_residual-in_err-values.result c.in_err-values.field-0.0 _ _ _ c.from_residual-in_err-values.ensures.1
    (λ e. said-apart c.args.telling.now c.args.key.now c.has_two_ports.result c.has_two_ports.ensures c.args.reader.now c.heading.new.reader c.in_ok-edge.edge c.in_ok-edge.ensures
    (ap (λ n. inside (value_spans n) c.heading.new.reader) (sym c.scale.ensures.value) ∙ e)) c.in_err-values.ensures

pub returns : goal.returns
returns c =
    let p = c.args.telling.now in
    let next = c.heading.new.reader in
    let values = ap (λ n. inside (value_spans n) next) (sym c.scale.ensures.value) ∙ c.in_ok-values.ensures in
    let same = ap (λ l. keep_all c.is_key.result c.in_ok-edge.edge l p) (sym c.deref.ensures.value) in
    carried c.keep_all.result _ _ _ _
    (λ _ e. said-done p c.args.key.now c.has_two_ports.result c.has_two_ports.ensures c.args.reader.now next c.in_ok-edge.edge c.in_ok-edge.ensures c.values.new.reader c.values.new.spans.items values c.is_key.result
    c.is_key.ensures c.keep_all.new.self (same ∙ e))
    (λ e. said-over p c.args.key.now c.has_two_ports.result c.has_two_ports.ensures c.args.reader.now next c.in_ok-edge.edge c.in_ok-edge.ensures c.values.new.reader c.values.new.spans.items values c.is_key.result
    c.is_key.ensures (same ∙ e))
    c.keep_all.ensures
