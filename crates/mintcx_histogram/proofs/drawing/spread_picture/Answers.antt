use Rattle.std.proofs.Common.{◌≡◌, ℕ, List, [], ◌∷◌, ◌++◌, ap, ◌∙◌}
use Rattle.std.proofs.lemmas.Result.{IfOk-weaker}
use Rattle.mintcx_picture.specs.declared.forms.Form.{Form}
use Rattle.mintcx_picture.specs.Pictures.{picture_text}
use Rattle.mintcx_histogram.specs.Pictures.{bar_layers, IsOfStep}
use Rattle.mintcx_histogram.proofs.drawing.spread_picture.Goals as goal

pub returns : goal.returns
returns c =
    let spread = c.args.spread.now in
    let head = c.in_ok-head.head in
    let top = c.in_ok-top_layer.field-0 in
    let foot = c.in_ok-foot.foot in
    let bars = bar_layers spread.unit spread.step.femtoseconds spread.extra.now in
    let layers : c.deref.result.now ≡ top ∷ bars ++ foot ∷ [] =
    c.deref.ensures.value ∙ c.in_ok-push.ensures.items
    ∙ ap (λ (v : List (List Form)). v ++ foot ∷ []) (c.in_ok-push_bars.ensures ∙ ap (λ (v : List (List Form)). v ++ bars) c.in_ok-layers.ensures.items) in
    IfOk-weaker c.picture_text.result (λ (text : List ℕ). text ≡ picture_text head c.deref.result.now)
    (IsOfStep spread.unit spread.step.femtoseconds spread.extra.now)
    (λ (text : List ℕ) e. (head, top, foot, e ∙ ap (λ (v : List (List Form)). picture_text head v) layers))
    c.picture_text.ensures
