-- What the clock asks for a design, it asks for the design that covers it.
use Rattle.std.proofs.Common.{◌≡◌, ℕ, ◌<◌, ◌≤◌, ◌==◌, ℤ, pos, ◌≤ℤ◌, true, not, ◌&&◌, map, length, ◌⊎◌, ⊎_elim, arith, sym, ap, ◌∙◌, subst}
use Rattle.std.proofs.lemmas.Int.{ints}
use Rattle.std.proofs.lemmas.Bool.{eqb-true, eq-eqb}
use Rattle.std.proofs.lemmas.List.{get_or_default}
use Rattle.std.proofs.lemmas.List.Elements.{All-contains}
use Rattle.std.proofs.lemmas.List.Folds.{Any-from_list_any, list_any_at}
use Rattle.std.specs.List.{filter}
use Rattle.mintc_timing.specs.declared.parts.Element.{Element}
use Rattle.mintc_timing.specs.declared.parts.Pair.{Pair}
use Rattle.mintc_timing.specs.declared.clocking.Schedule.{Schedule}
use Rattle.mintc_timing.specs.Clocking.{is_pair_between, feeds_of, least_width, KeepsClock, KeepsPhase}
use Rattle.mintc_timing.specs.Design.{Timing, element_at, element_count, phase_of, phase_count, no_element}
use Rattle.mintc_timing.specs.Extremes.{greatest_of}
use Rattle.mintc_timing.specs.Paths.{ArePairs, HasExtremes}
use Rattle.mintc_timing.proofs.SharedExtremesLaws.{greatest_is, greater-least, greater-bound, greater-attained}
use Rattle.mintc_timing.proofs.SharedProducts.{times-mono_positive}
use Rattle.mintc_edges_cover.specs.Cover.{IsCover, PairLiesOn}
use Rattle.mintc_edges_cover.specs.Laws.{FeedsOnlyWhere}
use Rattle.mintc_edges_cover.proofs.SharedPathLaws.{pair_covered}

module _ (other t : Timing) (cover : IsCover other.flat t.flat) (wider : ArePairs other.flat other.pairs) (pairs : ArePairs t.flat t.pairs) where
  -- a pair between two phases lies on one between them
  between-kept : (i j : ℕ) (p q : Pair) → HasExtremes t.flat p → PairLiesOn cover.element_on p q → is_pair_between t.flat i j p ≡ is_pair_between other.flat i j q
  between-kept i j p q ex lies =
      let first : phase_of t.flat p.from ≡ phase_of other.flat q.from = (cover.elements p.from ex.from).phase ∙ ap (phase_of other.flat) (sym lies.from) in
      let second : phase_of t.flat p.to ≡ phase_of other.flat q.to = (cover.elements p.to ex.to).phase ∙ ap (phase_of other.flat) (sym lies.to) in
      let flop : (element_at t.flat p.to).flop ≡ (element_at other.flat q.to).flop = (cover.elements p.to ex.to).flop ∙ ap (λ v. (element_at other.flat v).flop) (sym lies.to) in
      ap (λ a. (a == i) && (phase_of t.flat p.to == j) && not (element_at t.flat p.to).flop) first
      ∙ ap (λ a. (phase_of other.flat q.from == i) && (a == j) && not (element_at t.flat p.to).flop) second
      ∙ ap (λ b. (phase_of other.flat q.from == i) && (phase_of other.flat q.to == j) && not b) flop

  -- What feeds a phase feeds it in the design that covers.
  pub feeds-kept : (i j : ℕ) → feeds_of t i j ≡ true → feeds_of other i j ≡ true
  feeds-kept i j fed =
      let w = Any-from_list_any (is_pair_between t.flat i j) t.pairs fed in
      let ex : HasExtremes t.flat w.1 = All-contains (HasExtremes t.flat) t.pairs w.1 pairs.each (w.0, w.2, w.3) in
      let q = pair_covered other.flat t.flat cover other.pairs wider w.1 ex in
      let same = between-kept i j w.1 q.1 ex q.4 in
      list_any_at (is_pair_between other.flat i j) other.pairs q.0 q.1 q.2 (ap (is_pair_between other.flat i j) q.3 ∙ sym same ∙ w.4)

  -- No phase has to be wider.
  width_at_most : (p m : ℕ) → m < element_count t.flat → (element_at t.flat m).phase ≡ p → (element_at t.flat m).width ≤ℤ least_width other.flat p
  width_at_most p m h at =
      let o = element_at other.flat (cover.element_on m) in
      let within = cover.elements m h in
      let there = cover.there m h in
      let test : (o.phase == p) ≡ true = eq-eqb o.phase p (sym within.phase ∙ at) in
      let bound = greater-bound (λ (e : Element). e.width) (λ (e : Element). e.phase == p) (pos 0) other.flat.elements (greatest_of (map (λ (e : Element). e.width) (filter (λ (e : Element). e.phase == p) other.flat.elements)))
      (greatest_is (λ (e : Element). e.width) (λ (e : Element). e.phase == p) other.flat.elements) (cover.element_on m) no_element there test in
      omega (arith, ints, bound, within.width)

  pub width-kept : (p : ℕ) → least_width t.flat p ≤ℤ least_width other.flat p
  width-kept p =
      ⊎_elim
      (λ none. subst (λ v. v ≤ℤ least_width other.flat p) (sym none) (greater-least (λ (e : Element). e.width) (λ (e : Element). e.phase == p) (pos 0) (greatest_of (map (λ (e : Element). e.width) (filter (λ (e : Element). e.phase == p) other.flat.elements)))))
      (λ w.
      let is : element_at t.flat w.0 ≡ w.1 = get_or_default t.flat.elements w.0 no_element w.1 w.2 ∙ w.3 in
      let at : (element_at t.flat w.0).phase ≡ p = ap (λ (e : Element). e.phase) is ∙ eqb-true _ _ w.4.0 in
      let wide : (element_at t.flat w.0).width ≡ least_width t.flat p = ap (λ (e : Element). e.width) is ∙ w.4.1 in
      subst (λ v. v ≤ℤ least_width other.flat p) wide (width_at_most p w.0 w.2 at))
      (greater-attained (λ (e : Element). e.width) (λ (e : Element). e.phase == p) (pos 0) t.flat.elements (greatest_of (map (λ (e : Element). e.width) (filter (λ (e : Element). e.phase == p) t.flat.elements)))
      (greatest_is (λ (e : Element). e.width) (λ (e : Element). e.phase == p) t.flat.elements))

  count-kept : phase_count t.flat ≡ phase_count other.flat
  count-kept = ap length cover.phases

  module _ (s : Schedule) (clock : KeepsClock other s) where
    phase-kept : (p : ℕ) → 1 ≤ p → p ≤ phase_count other.flat → KeepsPhase t s p
    phase-kept p low high =
        let each = clock.each p low high in
        let wide = times-mono_positive (least_width t.flat p) (least_width other.flat p) s.den (width-kept p) clock.den in
        record {
          start = each.start;
          span = each.span;
          order = λ next. each.order (rw count-kept at next);
          wide = omega (arith, ints, wide, each.wide);
          apart = λ j low' high' fed. each.apart j low' (rw count-kept at high') (feeds-kept p j fed);
        }

    -- A schedule that keeps the clock of the design that covers keeps that of the other.
    pub clock-kept : KeepsClock t s
    clock-kept = record {
      den = clock.den;
      starts = clock.starts ∙ sym count-kept;
      widths = clock.widths ∙ sym count-kept;
      each = λ p low high. phase-kept p low (rw count-kept at high);
    }

pub feeds_only_where_lem : FeedsOnlyWhere
feeds_only_where_lem other t cover wider pairs i j fed = feeds-kept other t cover wider pairs i j fed
