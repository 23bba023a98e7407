-- The layers of rows and of bars, one by one.
use Rattle.std.proofs.Common.{◌≡◌, ℕ, ◌+◌, ◌<◌, List, [], ◌∷◌, ◌++◌, length, get_or, take, refl, append_assoc, ap, ◌∙◌, sym, subst, arith}
use Rattle.std.proofs.lemmas.List.{append-nil, take_more}
use Rattle.mintcx_amounts.specs.declared.unit.Unit.{Unit}
use Rattle.mintcx_picture.specs.declared.forms.Form.{Form}
use Rattle.mintcx_picture.specs.declared.scale.Scale.{Scale}
use Rattle.mintcx_chart.specs.declared.lanes.Lane.{Lane}
use Rattle.mintcx_chart.specs.declared.parts.Part.{Part}
use Rattle.mintcx_chart.specs.Rows.{row_words, part_form, AreBars, AreParts, AreRows, HasBar, HasBars, HasPart, HasRow, HasRows}

-- rows, and one row more
rows_push : (lanes : List Lane) (lane : Lane) (layers : List (List Form)) (windows : List Form) → AreRows lanes layers →
    AreRows (lanes ++ lane ∷ []) (layers ++ row_words lane ∷ windows ∷ [])
rows_push [] lane layers windows none =
    (windows, [], refl, ap (λ (v : List (List Form)). v ++ row_words lane ∷ windows ∷ []) none)
rows_push (first ∷ lanes) lane layers windows (own, more, rest, is) = (
  own,
  more ++ row_words lane ∷ windows ∷ [],
  rows_push lanes lane more windows rest,
  ap (λ (v : List (List Form)). v ++ row_words lane ∷ windows ∷ []) is,
)

pub rows_more : (lanes : List Lane) (i : ℕ) (lane : Lane) (old before new : List (List Form)) → i < length lanes → lane ≡ get_or lanes i lane →
    HasRows (take i lanes) old before → HasRow lane before new → HasRows (take (i + 1) lanes) old new
rows_more lanes i lane old before new below is (layers, are, e) (windows, f) =
    let last = row_words lane ∷ windows ∷ [] in (
      layers ++ last,
      subst (λ (v : List Lane). AreRows v (layers ++ last)) (ap (λ (v : Lane). take i lanes ++ v ∷ []) is ∙ sym (take_more lanes i lane below))
          (rows_push (take i lanes) lane layers windows are),
      f ∙ ap (λ (v : List (List Form)). v ++ last) e ∙ append_assoc old layers last,
    )

pub no_rows : (old : List (List Form)) → HasRows [] old old
no_rows old = ([], refl, sym (append-nil old))

-- parts, and one part more
module _ (scale : Scale) (unit : Unit) (lane : Lane) where
  parts_push : (parts : List Part) (part : Part) (forms new : List Form) → AreParts scale unit lane parts forms → HasPart scale unit lane part forms new →
      AreParts scale unit lane (parts ++ part ∷ []) new
  parts_push [] part forms new none (colour, words, is) = (
    colour,
    words,
    [],
    refl,
    is ∙ ap (λ (v : List Form). v ++ part_form scale unit lane colour part ∷ words) none
        ∙ ap (λ (v : List Form). part_form scale unit lane colour part ∷ v) (sym (append-nil words)),
  )
  parts_push (first ∷ parts) part forms new (own, within, more, rest, is) (colour, words, e) =
      let last = part_form scale unit lane colour part ∷ words in (
        own,
        within,
        more ++ last,
        parts_push parts part more (more ++ last) rest (colour, words, refl),
        e ∙ ap (λ (v : List Form). v ++ last) is ∙ ap (λ (v : List Form). part_form scale unit lane own first ∷ v) (append_assoc within more last),
      )

  pub parts_more : (parts : List Part) (i : ℕ) (part : Part) (forms new : List Form) → i < length parts → part ≡ get_or parts i part →
      AreParts scale unit lane (take i parts) forms → HasPart scale unit lane part forms new → AreParts scale unit lane (take (i + 1) parts) new
  parts_more parts i part forms new below is are more =
      subst (λ (v : List Part). AreParts scale unit lane v new) (ap (λ (v : Part). take i parts ++ v ∷ []) is ∙ sym (take_more parts i part below))
      (parts_push (take i parts) part forms new are more)

-- bars, and one bar more
module _ (scale : Scale) (unit : Unit) where
  bars_push : (lanes : List Lane) (lane : Lane) (layers : List (List Form)) (parts joints : List Form) → AreParts scale unit lane lane.parts parts →
      AreBars scale unit lanes layers → AreBars scale unit (lanes ++ lane ∷ []) (layers ++ parts ∷ joints ∷ [])
  bars_push [] lane layers parts joints are none =
      (parts, joints, [], are, refl, ap (λ (v : List (List Form)). v ++ parts ∷ joints ∷ []) none)
  bars_push (first ∷ lanes) lane layers parts joints are (own, joined, more, has, rest, is) = (
    own,
    joined,
    more ++ parts ∷ joints ∷ [],
    has,
    bars_push lanes lane more parts joints are rest,
    ap (λ (v : List (List Form)). v ++ parts ∷ joints ∷ []) is,
  )

  pub bars_more : (lanes : List Lane) (i : ℕ) (lane : Lane) (old before new : List (List Form)) → i < length lanes → lane ≡ get_or lanes i lane →
      HasBars scale unit (take i lanes) old before → HasBar scale unit lane before new → HasBars scale unit (take (i + 1) lanes) old new
  bars_more lanes i lane old before new below is (layers, are, e) (parts, joints, has, f) =
      let last = parts ∷ joints ∷ [] in (
        layers ++ last,
        subst (λ (v : List Lane). AreBars scale unit v (layers ++ last)) (ap (λ (v : Lane). take i lanes ++ v ∷ []) is ∙ sym (take_more lanes i lane below))
            (bars_push (take i lanes) lane layers parts joints has are),
        f ∙ ap (λ (v : List (List Form)). v ++ last) e ∙ append_assoc old layers last,
      )

  pub no_bars : (old : List (List Form)) → HasBars scale unit [] old old
  no_bars old = ([], refl, sym (append-nil old))
