use Rattle.std.proofs.Common.{Some, [], ◌∷◌, sym, ap, ◌∙◌}
use Rattle.mintc_sdf.specs.Texts.{after_head}
use Rattle.mintc_sdf_tokens.specs.Items.{items}
use Rattle.mintc_sdf_edges.specs.Walking.{after_rows}
use Rattle.mintc_sdf.proofs.SharedCarriedLaws.{passed-on}
use Rattle.mintc_sdf_edges.proofs.WalkLaws.{ends, written-out, no-head, told-none, told-some}
use Rattle.mintc_sdf_edges.proofs.texts.told_in.Goals as goal

pub returns-then-not-head : goal.returns-then-not-head
returns-then-not-head c = no-head c.args.text.now c.args.delays.now (ap after_head (sym c.new-reader.ensures) ∙ c.if-not-head.ensures)

pub returns-in_err-walk : goal.returns-in_err-walk
returns-in_err-walk c =
    let ts = c.head.new.reader in
    let head = ap after_head (sym c.new-reader.ensures) ∙ c.if-not-head.ensures in
    let out = written-out c.items_are_the_tokens.ensures.written ts (ends c.args.text.now c.args.delays.now ts c.requires head) in
    passed-on c.from_residual.result c.in_err-walk.field-0.0 _ _ _ c.from_residual.ensures.1
    (λ e. told-none c.args.text.now c.args.delays.now ts head (ap (λ p. after_rows p (items ts ∷ [])) (sym c.new-telling.ensures) ∙ e)) (c.in_err-walk.ensures (items ts ∷ []) out)

pub returns : goal.returns
returns c =
    let ts = c.head.new.reader in
    let head = ap after_head (sym c.new-reader.ensures) ∙ c.if-not-head.ensures in
    let out = written-out c.items_are_the_tokens.ensures.written ts (ends c.args.text.now c.args.delays.now ts c.requires head) in
    let walked = ap (λ p. after_rows p (items ts ∷ [])) (sym c.new-telling.ensures) ∙ c.in_ok-walk.ensures (items ts ∷ []) out in
    told-some c.args.text.now c.args.delays.now ts c.walk.new.telling head walked ∙ ap (λ l. Some l) (sym c.into_items.ensures)
