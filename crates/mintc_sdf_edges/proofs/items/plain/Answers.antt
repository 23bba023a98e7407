use Rattle.std.proofs.Common.{Some, sym, ap, ◌∙◌}
use Rattle.mintc_sdf.proofs.SharedCarriedLaws.{carried}
use Rattle.mintc_sdf_edges.proofs.ItemLaws.{plain-said, plain-open, plain-passed, scale-lost, scale-done}
use Rattle.mintc_sdf_edges.proofs.items.plain.Goals as goal

pub returns-then-is_said : goal.returns-then-is_said
returns-then-is_said c =
    let same = plain-said c.args.telling.now c.args.key.now c.args.reader.now (sym c.if-is_said.ensures) in
    carried c.said.result _ _ _ _ (λ _ e. same ∙ e) (λ e. same ∙ e) c.said.ensures

pub returns-then-not-is_key : goal.returns-then-not-is_key
returns-then-not-is_key c =
    carried c.pass_rest.result _ _ _ _
    (λ _ e. plain-passed c.args.telling.now c.args.key.now c.args.reader.now (sym c.if-is_said.ensures) c.pass_rest.new.reader (sym c.if-not-is_key.ensures) e)
    (λ e. plain-open c.args.telling.now c.args.key.now c.args.reader.now (sym c.if-is_said.ensures) (sym c.if-not-is_key.ensures) e) c.pass_rest.ensures

pub returns-in_default : goal.returns-in_default
returns-in_default c =
    scale-lost c.args.telling.now c.args.key.now c.args.reader.now (sym c.if-is_said.ensures) (sym c.if-not-is_key.ensures) c.in_default.ensures.none

pub returns : goal.returns
returns c =
    scale-done c.args.telling.now c.args.key.now c.args.reader.now (sym c.if-is_said.ensures) c.in-Some.scale c.scale_of.new.reader (sym c.if-not-is_key.ensures) c.in-Some.ensures.some
    ∙ ap (λ q. Some (q, c.scale_of.new.reader)) (sym c.set_scale.ensures)
