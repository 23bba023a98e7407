-- Listed paths and pairs lie on those of the design that covers.
use Rattle.std.proofs.Common.{◌≡◌, ◌≢◌, ℕ, ◌<◌, ℤ, ◌≤ℤ◌, List, [], ◌∷◌, get_or, Any, arith, ap, ◌∙◌, sym, subst}
use Rattle.std.proofs.lemmas.Int.{ints}
use Rattle.std.proofs.lemmas.List.{get_or_default}
use Rattle.std.proofs.lemmas.List.Elements.{All-contains}
use Rattle.mintc_timing.specs.declared.parts.TimingArc.{TimingArc}
use Rattle.mintc_timing.specs.declared.parts.Pair.{Pair}
use Rattle.mintc_timing.specs.Design.{Design, element_count, no_arc}
use Rattle.mintc_timing.specs.Paths.{input_of, output_of, arc_at, Leads, IsPath, greatest_delay, least_delay, ArePairs, HasExtremes}
use Rattle.mintc_edges_cover.specs.Cover.{IsCover, PairLiesOn}
use Rattle.mintc_edges_cover.specs.Laws.{PathsAreCovered, PairsAreCovered}

module _ (other design : Design) (cover : IsCover other design) where
  -- Arcs that lead from bit to bit lie on arcs that lead from the one on which the first lies to that of the last.
  abbrev Covering : ℕ → ℕ → List ℕ → Type 0
  Covering a b path = (whole : List ℕ) × Leads other.arcs (cover.bit_on a) whole (cover.bit_on b)
      × (least_delay other.arcs whole ≤ℤ least_delay design.arcs path)
      × (greatest_delay design.arcs path ≤ℤ greatest_delay other.arcs whole)
      × (path ≢ [] → whole ≢ [])

  covered : (path : List ℕ) (a b : ℕ) → Leads design.arcs a path b → Covering a b path
  covered [] a b h = ([], ap cover.bit_on h, omega (arith, ints), omega (arith, ints), λ e. e)
  covered (n ∷ path) a b h =
      let on = cover.arcs n no_arc h.0 in
      let is : arc_at other.arcs on.0 ≡ on.1 = get_or_default other.arcs on.0 no_arc on.1 on.2 ∙ on.3 in
      let rest = covered path (arc_at design.arcs n).to b h.2 in
      let from : (arc_at other.arcs on.0).from ≡ cover.bit_on a = ap (λ (x : TimingArc). x.from) is ∙ on.4.from ∙ ap cover.bit_on h.1 in
      let to : (arc_at other.arcs on.0).to ≡ cover.bit_on (arc_at design.arcs n).to = ap (λ (x : TimingArc). x.to) is ∙ on.4.to in
      let least : (arc_at other.arcs on.0).min ≤ℤ (arc_at design.arcs n).min = subst (λ (x : TimingArc). x.min ≤ℤ (arc_at design.arcs n).min) (sym is) on.4.min in
      let most : (arc_at design.arcs n).max ≤ℤ (arc_at other.arcs on.0).max = subst (λ (x : TimingArc). (arc_at design.arcs n).max ≤ℤ x.max) (sym is) on.4.max in
      let low = rest.2 in
      let high = rest.3 in (
        on.0 ∷ rest.0,
        (on.2, from, subst (λ v. Leads other.arcs v rest.0 (cover.bit_on b)) (sym to) rest.1),
        omega (arith, ints),
        omega (arith, ints),
        λ some e. cc,
      )

pub paths_are_covered_lem : PathsAreCovered
paths_are_covered_lem other design cover j bit path h is_path =
    let w = covered other design cover path (output_of j) bit is_path.1 in
    (w.0, (w.4 is_path.0, subst (λ v. Leads other.arcs v w.0 (cover.bit_on bit)) (cover.outputs j h) w.1), w.2, w.3)

module _ (other design : Design) (cover : IsCover other design) (wider : List Pair) (theirs : ArePairs other wider) where
  -- a path between the two elements on which those of a pair lie, with sums that reach as far
  abbrev Between : Pair → List ℕ → Type 0
  Between p path = (whole : List ℕ) × IsPath other.arcs (cover.element_on p.from) whole (input_of (cover.element_on p.to))
      × (least_delay other.arcs whole ≤ℤ least_delay design.arcs path)
      × (greatest_delay design.arcs path ≤ℤ greatest_delay other.arcs whole)

  between : (p : Pair) (path : List ℕ) → p.from < element_count design → p.to < element_count design → IsPath design.arcs p.from path (input_of p.to) → Between p path
  between p path from to is_path =
      let w = paths_are_covered_lem other design cover p.from (input_of p.to) path from is_path in
      (w.0, subst (λ v. IsPath other.arcs (cover.element_on p.from) w.0 v) (cover.inputs p.to to) w.1, w.2, w.3)

  pub pair_covered : (p : Pair) → HasExtremes design p → Any (PairLiesOn cover.element_on p) wider
  pair_covered p ex =
      let top = ex.greatest.attained in
      let bottom = ex.least.attained in
      let w = between p top.0 ex.from ex.to top.1 in
      let v = between p bottom.0 ex.from ex.to bottom.1 in
      let q = theirs.whole (cover.element_on p.from) (cover.element_on p.to) w.0 (cover.there p.from ex.from) (cover.there p.to ex.to) w.1 in
      let reach : HasExtremes other q.0 = All-contains (HasExtremes other) wider q.0 theirs.each q.1 in
      let high = reach.greatest.bound w.0 (rw (q.2, q.3) w.1) in
      let low = reach.least.bound v.0 (rw (q.2, q.3) v.1) in
      let most : q.0.min ≤ℤ p.min = subst (λ x. q.0.min ≤ℤ x) bottom.2 (omega (arith, ints, low, v.2)) in
      let least : p.max ≤ℤ q.0.max = subst (λ x. x ≤ℤ q.0.max) top.2 (omega (arith, ints, high, w.3)) in
      (q.1.0, q.0, q.1.1, q.1.2, record { from = q.2; to = q.3; min = most; max = least })

pub pairs_are_covered_lem : PairsAreCovered
pairs_are_covered_lem other design cover wider pairs theirs mine =
    λ n d h. pair_covered other design cover wider theirs (get_or pairs n d) (mine.each n d h)
