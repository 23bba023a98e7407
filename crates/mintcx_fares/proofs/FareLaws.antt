-- Setups and holds with their rows, one by one.
use Rattle.std.proofs.Common.{◌≡◌, ℕ, ◌+◌, ◌<◌, List, [], ◌∷◌, ◌++◌, length, get_or, take, arith, append_assoc, ap, ◌∙◌, sym, subst}
use Rattle.std.specs.Prelude.{All, flat_map}
use Rattle.std.proofs.lemmas.List.{flat_map_more, length-append, map-append, take_more}
use Rattle.std.proofs.lemmas.List.Elements.{All-push}
use Rattle.mintc_timing.specs.Design.{Design}
use Rattle.mintcx_frame.specs.Names.{element_name}
use Rattle.mintcx_chart.specs.declared.lanes.Lane.{Lane}
use Rattle.mintcx_chart.specs.Sheets.{IsLane}
use Rattle.mintcx_fares.specs.declared.drawing.Fares.{Fares}
use Rattle.mintcx_fares.specs.declared.items.Item.{Item}
use Rattle.mintcx_fares.specs.Items.{names_of, AreFares, Grows, IsItem}
use Rattle.mintcx_fares.specs.Places.{two_names}

-- one setup or hold more, with its two rows
pub grown : (design : Design) (old new : Fares) (item : Item) (source element : Lane) → IsItem design item → IsLane source → IsLane element →
    source.name ≡ element_name design item.from → element.name ≡ element_name design item.to →
    new.items.items ≡ old.items.items ++ item ∷ [] → new.lanes.items ≡ (old.lanes.items ++ source ∷ []) ++ element ∷ [] →
    Grows design (two_names design item.from item.to) old new
grown design old new item source element is first second from to items lanes =
    let one = length-append old.items.items (item ∷ []) in
    let two = length-append (old.lanes.items ++ source ∷ []) (element ∷ []) in
    let before = length-append old.lanes.items (source ∷ []) in
    let counted = ap (λ (v : List Item). length v) items in
    let rowed = ap (λ (v : List Lane). length v) lanes in
    record {
      few = omega (arith, one, counted);
      rows = λ same. omega (arith, one, two, before, counted, rowed, same);
      items = λ each. subst (λ (v : List Item). All (IsItem design) v) (sym items) (All-push (IsItem design) old.items.items item each is);
      lanes = λ each. subst (λ (v : List Lane). All IsLane v) (sym lanes)
          (All-push IsLane (old.lanes.items ++ source ∷ []) element (All-push IsLane old.lanes.items source each first) second);
      names = ap names_of (lanes ∙ append_assoc old.lanes.items (source ∷ []) (element ∷ []))
          ∙ map-append (λ (lane : Lane). lane.name) old.lanes.items (source ∷ element ∷ [])
          ∙ ap (λ (v : List ℕ). names_of old.lanes.items ++ v ∷ element.name ∷ []) from
          ∙ ap (λ (v : List ℕ). names_of old.lanes.items ++ element_name design item.from ∷ v ∷ []) to;
    }

-- the setups and holds of one place more
pub fares_more : {X : Type 0} (design : Design) (f : X → List (List ℕ)) (places : List X) (i : ℕ) (d : X) (old new : Fares) → i < length places →
    AreFares design i (flat_map f (take i places)) old → Grows design (f (get_or places i d)) old new →
    AreFares design (i + 1) (flat_map f (take (i + 1) places)) new
fares_more design f places i d old new below before more =
    let place = get_or places i d in
    record {
      few = omega (arith, more.few, before.few);
      rows = more.rows before.rows;
      items = more.items before.items;
      lanes = more.lanes before.lanes;
      names = more.names ∙ ap (λ (v : List (List ℕ)). v ++ f place) before.names ∙ flat_map_more f [] (take i places) place
          ∙ ap (λ v. flat_map f v) (sym (take_more places i d below));
    }
