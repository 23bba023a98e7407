-- The moments of a corner's nodes among those of all, and the departures that they are.
use Rattle.std.proofs.Common.{◌≡◌, ℕ, ◌<◌, ◌≤◌, ◌+◌, ◌*◌, ℤ, pos, ◌-ℤ◌, cond, List, [], ◌∷◌, ◌++◌, length, get_or, take, drop, arith, refl, ap, ◌∙◌, sym, subst, length-append, length-drop}
use Rattle.std.specs.List.{flat_map}
use Rattle.std.proofs.Math.ListN.{get_or-append}
use Rattle.std.proofs.lemmas.List.{append-nil, ext_get_or, get_or-append-add, get_or-drop, get_or-take, length-take-le}
use Rattle.std.proofs.lemmas.List.FromFn.{get_or-map-range_with_len, length-map-range_with_len}
use Rattle.mintc_graph_walks.specs.Walks.{value_at}
use Rattle.mintc_timing.specs.declared.parts.Element.{Element}
use Rattle.mintc_timing.specs.Design.{Timing, element_at, element_count, no_element, phase_count, phase_of}
use Rattle.mintc_timing.specs.Links.{element_node, start_node}
use Rattle.mintc_constraints.specs.Duality.{departure_of, departures_of}
use Rattle.mintc_corners.specs.Joined.{departures_after, departures_of_all, corner_values}
use Rattle.mintc_corners.specs.Joint.{beside, side_by_side}
use Rattle.mintc_corners.specs.Laws.{AreBeside, AreSystems}
use Rattle.mintc_corners.proofs.JointLaws.{phases_are}
use Rattle.mintc_corners.proofs.PartsLaws.{each-element, element_beside_left, element_beside_right}

module _ (clock before count : ℕ) (values : List ℤ) (inside : 1 + clock + before + count ≤ length values) where
  abbrev own : List ℤ
  own = corner_values clock before count values

  front : length (take (1 + clock) values) ≡ 1 + clock
  front = length-take-le (1 + clock) values (omega arith)

  pub own_count : length own ≡ 1 + clock + count
  own_count =
      let all = length-append (take (1 + clock) values) (take count (drop (1 + clock + before) values)) in
      let first = front in
      let rest = length-drop (1 + clock + before) values in
      let back = length-take-le count (drop (1 + clock + before) values) (omega arith) in
      omega arith

  pub own_clock : (node : ℕ) → node ≤ clock → value_at own node ≡ value_at values node
  own_clock node h =
      let first = front in
      get_or-append (take (1 + clock) values) (take count (drop (1 + clock + before) values)) (pos 0) node (omega arith)
      ∙ get_or-take (1 + clock) values node (pos 0) (omega arith)

  pub own_element : (l : ℕ) → l < count → value_at own (1 + clock + l) ≡ value_at values (1 + clock + before + l)
  own_element l h =
      ap (λ (n : ℕ). value_at own (n + l)) (sym front)
      ∙ get_or-append-add (take (1 + clock) values) (take count (drop (1 + clock + before) values)) l (pos 0)
      ∙ get_or-take count (drop (1 + clock + before) values) l (pos 0) h
      ∙ get_or-drop (1 + clock + before) values l (pos 0)

-- the departure of an element that comes after so many others
abbrev pub depart : ℕ → ℕ → Timing → List ℤ → ℕ → ℤ
depart clock before t values l = cond (element_at t.flat l).flop (pos 0) (value_at values (1 + clock + before + l) -ℤ value_at values (start_node (phase_of t.flat l)))

abbrev departs : ℕ → List ℤ → Element → ℤ
departs node values e = cond e.flop (pos 0) (value_at values node -ℤ value_at values (start_node e.phase))

-- Departures of each of some corners, one after the other, are those of all.
record AreAll (ds : List ℤ) (clock before : ℕ) (t : Timing) (values : List ℤ) : Type 0 where
  pub count : length ds ≡ element_count t.flat
  pub each : (l : ℕ) → l < element_count t.flat → get_or ds l (pos 0) ≡ depart clock before t values l

module _ (values : List ℤ) where
  own_departs : (t : Timing) (ts : List Timing) (clock before : ℕ) → clock ≡ 2 * phase_count t.flat → AreSystems (t ∷ ts) → 1 + clock + before + element_count t.flat ≤ length values →
      AreAll (departures_of t.flat (corner_values clock before (element_count t.flat) values)) clock before t values
  own_departs t ts clock before is systems inside =
      let own = corner_values clock before (element_count t.flat) values in
      record {
        count = length-map-range_with_len (departure_of t.flat own) 0 (element_count t.flat);
        each = λ l h.
            let phase = (systems.0.each_element l no_element h).phase in
            let start = own_clock clock before (element_count t.flat) values inside (start_node (phase_of t.flat l)) (omega arith) in
            let at : element_node t.flat l ≡ 1 + clock + l = omega arith in
            let moment = ap (λ (x : ℕ). value_at own x) at ∙ own_element clock before (element_count t.flat) values inside l h in
            rw (get_or-map-range_with_len (departure_of t.flat own) 0 (element_count t.flat) l l (pos 0) h (omega arith), moment, start) refl;
      }

  both_depart : (t v : Timing) (ds es : List ℤ) (clock before : ℕ) → AreAll ds clock before t values → AreAll es clock (before + element_count t.flat) v values → AreAll (ds ++ es) clock before (beside t v) values
  both_depart t v ds es clock before first second =
      let all = length-append t.flat.elements v.flat.elements in
      let one = first.count in
      record {
        count = (let parts = length-append ds es in omega arith);
        each = each-element t v (λ l. get_or (ds ++ es) l (pos 0) ≡ depart clock before (beside t v) values l)
            (λ l few. get_or-append ds es (pos 0) l (omega arith) ∙ first.each l few ∙ sym (ap (departs (1 + clock + before + l) values) (element_beside_left t v l few)))
            (λ l many.
            let node : 1 + clock + (before + element_count t.flat) + l ≡ 1 + clock + before + (element_count t.flat + l) = omega arith in
            ap (λ (n : ℕ). get_or (ds ++ es) (n + l) (pos 0)) (sym first.count)
            ∙ get_or-append-add ds es l (pos 0)
            ∙ second.each l many
            ∙ ap (λ (x : ℕ). departs x values (element_at v.flat l)) node
            ∙ sym (ap (departs (1 + clock + before + (element_count t.flat + l)) values) (element_beside_right t v l)));
      }

  all_depart : (t : Timing) (ts : List Timing) (clock before : ℕ) → clock ≡ 2 * phase_count t.flat → AreBeside t ts → AreSystems (t ∷ ts) → 1 + clock + before + element_count (side_by_side t ts).flat ≤ length values →
      AreAll (flat_map (λ (d : List ℤ). d) (departures_after clock before (t ∷ ts) values)) clock before (side_by_side t ts) values
  all_depart t [] clock before is besides systems inside =
      subst (λ (ds : List ℤ). AreAll ds clock before t values) (sym (append-nil (departures_of t.flat (corner_values clock before (element_count t.flat) values)))) (own_departs t [] clock before is systems inside)
  all_depart t (u ∷ ts) clock before is besides systems inside =
      let v = side_by_side u ts in
      let all = length-append t.flat.elements v.flat.elements in
      let phases = phases_are u ts in
      both_depart t v (departures_of t.flat (corner_values clock before (element_count t.flat) values)) (flat_map (λ (d : List ℤ). d) (departures_after clock (before + element_count t.flat) (u ∷ ts) values)) clock before
      (own_departs t (u ∷ ts) clock before is systems (omega arith))
      (all_depart u ts clock (before + element_count t.flat) (omega arith) besides.2 systems.2 (omega arith))

pub departures_are : (t : Timing) (ts : List Timing) (values : List ℤ) → AreBeside t ts → AreSystems (t ∷ ts) → length values ≡ 1 + 2 * phase_count t.flat + element_count (side_by_side t ts).flat →
    flat_map (λ (d : List ℤ). d) (departures_of_all (t ∷ ts) values) ≡ departures_of (side_by_side t ts).flat values
departures_are t ts values besides systems count =
    let big = side_by_side t ts in
    let all = all_depart values t ts (2 * phase_count t.flat) 0 refl besides systems (omega arith) in
    let mine = length-map-range_with_len (departure_of big.flat values) 0 (element_count big.flat) in
    ext_get_or (pos 0) (flat_map (λ (d : List ℤ). d) (departures_of_all (t ∷ ts) values)) (departures_of big.flat values) (all.count ∙ sym mine)
    (λ l h.
    let few : l < element_count big.flat = omega arith in
    let node : 1 + 2 * phase_count t.flat + 0 + l ≡ element_node big.flat l = (let phases = phases_are t ts in omega arith) in
    all.each l few
    ∙ ap (λ (x : ℕ). cond (element_at big.flat l).flop (pos 0) (value_at values x -ℤ value_at values (start_node (phase_of big.flat l)))) node
    ∙ sym (get_or-map-range_with_len (departure_of big.flat values) 0 (element_count big.flat) l l (pos 0) few (omega arith)))

-- how many departures each corner has
pub counts_are : (t : Timing) (own : List ℤ) → length (departures_of t.flat own) ≡ element_count t.flat
counts_are t own = length-map-range_with_len (departure_of t.flat own) 0 (element_count t.flat)
