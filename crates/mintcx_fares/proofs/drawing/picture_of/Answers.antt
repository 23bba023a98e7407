use Rattle.std.proofs.Common.{◌≡◌, List, ℕ, subst, sym}
use Rattle.std.proofs.lemmas.Result.{IfOk-weaker}
use Rattle.mintcx_picture.specs.declared.forms.Form.{Form}
use Rattle.mintcx_picture.specs.Pictures.{picture_text}
use Rattle.mintcx_fares.specs.Drawings.{AreLayers, IsOfRows}
use Rattle.mintcx_fares.proofs.drawing.picture_of.Goals as goal

pub returns : goal.returns
returns c =
    let sheet = c.args.sheet.now in
    let are = subst (λ (layers : List (List Form)). AreLayers sheet.scale sheet.unit sheet.lanes.now layers) (sym c.deref.ensures.value) c.in_ok-layers.ensures in
    IfOk-weaker c.picture_text.result (λ (text : List ℕ). text ≡ picture_text c.in_ok-head.head c.deref.result.now)
    (IsOfRows sheet.scale sheet.unit sheet.lanes.now)
    (λ (text : List ℕ) e. (c.in_ok-head.head, c.deref.result.now, are, e))
    c.picture_text.ensures
