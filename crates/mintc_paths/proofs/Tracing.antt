-- A path traced back along the order.
use Rattle.std.proofs.Common.{◌≡◌, ℕ, ◌<◌, ◌+◌, ℤ, ◌+ℤ◌, pos, List, [], ◌∷◌, ◌++◌, length, get_or, arith, refl, ap, ◌∙◌, sym, ⊎_elim, Option, Some, None, subst}
use Rattle.std.specs.Prelude.{IsSomeAnd, reverse}
use Rattle.std.proofs.lemmas.List.{reverse-append}
use Rattle.std.proofs.lemmas.Int.{ints}
use Rattle.mintc_timing.specs.declared.parts.TimingArc.{TimingArc}
use Rattle.mintc_graph.specs.Rings.{total}
use Rattle.mintc_timing.specs.Paths.{Leads, arc_at}
use Rattle.mintc_timing.specs.Order.{IsOrder}
use Rattle.mintc_timing.proofs.SharedOrdered.{split, all_among, before_among, inside, Leads-push, none_among}
use Rattle.mintc_graph.proofs.SharedRingLaws.{total-push}
use Rattle.mintc_paths_sums.specs.declared.sums.Sums.{Sums}
use Rattle.mintc_paths_sums.specs.Sums.{sums_at}
use Rattle.mintc_paths.specs.declared.trace.Extreme.{Extreme}
use Rattle.mintc_paths.specs.declared.trace.Extreme.TheVariants.{Greatest, Least}
use Rattle.mintc_paths.specs.Trace.{AtMostOf, sum_of, weight_of, AreBestSums, IsThrough, IsTraced}

same_sum : (x y : ℤ) → Some x ≡ Some y → x ≡ y
same_sum x y e = cc

-- Two sums, each no better than the other with the same number added, make one.
both_ways : (extreme : Extreme) (b y z w : ℤ) → AtMostOf extreme b y → AtMostOf extreme (y +ℤ w) z → z ≡ b +ℤ w → z ≡ y +ℤ w
both_ways Greatest b y z w h g e = omega (arith, ints)
both_ways Least b y z w h g e = omega (arith, ints)

-- an equation of sums through a known option
through : (P : ℤ → Type 0) (Q : ℤ → Type 0) (o : Option ℤ) → ((y : ℤ) → o ≡ Some y → P y → Q y) → IsSomeAnd o P → IsSomeAnd o Q
through P Q None f h = absurd h
through P Q (Some y) f h = f y refl h

pub some_of : (o : Option ℤ) (P : ℤ → Type 0) → IsSomeAnd o P → (y : ℤ) × (o ≡ Some y) × P y
some_of None P h = absurd h
some_of (Some y) P h = (y, refl, h)

module _ (extreme : Extreme) (arcs : List TimingArc) (order : List ℕ) (is_order : IsOrder arcs order) (sums : List Sums) (from end : ℕ) (best : ℤ)
    (best_sums : AreBestSums extreme arcs order from sums) where
  abbrev weight : ℕ → ℤ
  weight = weight_of extreme arcs

  abbrev sum : ℕ → Option ℤ
  sum bit = sum_of extreme (sums_at sums bit)

  -- Where the best path to a bit ends with an arc, the best sum goes through that arc.
  through_last : (n : ℕ) (before : List ℕ) → n < length arcs → (arc_at arcs n).from < length sums → (arc_at arcs n).to < length sums → Leads arcs from before (arc_at arcs n).from →
      Some (total weight (before ++ n ∷ [])) ≡ sum (arc_at arcs n).to → IsThrough extreme sums (arc_at arcs n)
  through_last n before below from_in to_in lead is =
      let arc : TimingArc = arc_at arcs n in
      let here = best_sums arc.from from_in in
      let there = best_sums arc.to to_in in
      through (λ y. AtMostOf extreme (total weight before) y) (λ y. sum arc.to ≡ Some (y +ℤ weight n)) (sum arc.from)
      (λ y e at_most.
      let path = rw e at here.attained in
      let longer : Leads arcs from (path.0 ++ n ∷ []) arc.to = Leads-push arcs from path.0 n below path.2 in
      let bounded = there.bound (path.0 ++ n ∷ []) (all_among arcs order is_order from (path.0 ++ n ∷ []) arc.to longer) longer in
      let limit = rw (← is) at bounded in
      let summed : total weight (path.0 ++ n ∷ []) ≡ y +ℤ weight n = total-push weight path.0 n ∙ ap (λ z. z +ℤ weight n) path.3 in
      let limited : AtMostOf extreme (y +ℤ weight n) (total weight (before ++ n ∷ [])) = subst (λ z. AtMostOf extreme z (total weight (before ++ n ∷ []))) summed limit in
      sym is ∙ ap Some (both_ways extreme (total weight before) y (total weight (before ++ n ∷ [])) (weight n) at_most limited (total-push weight before n)))
      (here.bound before (all_among arcs order is_order from before arc.from lead) lead)

  module _ (k bit : ℕ) (traced : List ℕ) (low : k < length order) (from_in : (arc_at arcs (get_or order k 0)).from < length sums) (to_in : (arc_at arcs (get_or order k 0)).to < length sums)
      (h : IsTraced extreme arcs order sums from end best (k + 1) bit traced) where
    abbrev n : ℕ
    n = get_or order k 0

    pub IsTraced-passed : ((arc_at arcs n).to ≡ bit → IsThrough extreme sums (arc_at arcs n) → ⊥) → IsTraced extreme arcs order sums from end best k bit traced
    IsTraced-passed is_not = record {
      inside = h.inside;
      leads = h.leads;
      before =
          let b = h.before in
          ⊎_elim (λ old. (b.0, old, b.2, b.3, b.4))
          (λ new.
          let sum_is : Some (total weight (new.0 ++ n ∷ [])) ≡ sum (arc_at arcs n).to = ap (λ path. Some (total weight path)) (sym new.4) ∙ b.3 ∙ ap sum new.3 in
          absurd (is_not (sym new.3) (through_last n new.0 (inside arcs order is_order k low) from_in to_in new.2 sum_is)))
          (split arcs order is_order from b.0 bit k low b.2 b.1);
    }

    pub IsTraced-taken : (arc_at arcs n).to ≡ bit → IsThrough extreme sums (arc_at arcs n) → IsTraced extreme arcs order sums from end best k (arc_at arcs n).from (n ∷ traced)
    IsTraced-taken enters is_through =
        let some = some_of (sum (arc_at arcs n).from) (λ y. sum (arc_at arcs n).to ≡ Some (y +ℤ weight n)) is_through in
        let path = rw some.1 at (best_sums (arc_at arcs n).from from_in).attained in
        let b = h.before in
        let same = same_sum (total weight b.0) (some.0 +ℤ weight n) (b.3 ∙ ap sum (sym enters) ∙ some.2) in
        record {
          inside = from_in;
          leads = (inside arcs order is_order k low, refl, subst (λ e. Leads arcs e traced end) (sym enters) h.leads);
          before = (path.0, before_among arcs order is_order from path.0 (arc_at arcs n).from k path.2 low refl, path.2, ap Some path.3 ∙ sym some.1, omega (arith, ints));
        }

  pub traced_all : (bit : ℕ) (traced : List ℕ) → sum from ≡ Some (pos 0) → IsTraced extreme arcs order sums from end best 0 bit traced →
      Leads arcs from traced end × (total weight traced ≡ best)
  traced_all bit traced zero h =
      let b = h.before in
      let none : b.0 ≡ [] = none_among order b.0 b.1 in
      let here : from ≡ bit = subst (λ path. Leads arcs from path bit) none b.2 in
      (subst (λ e. Leads arcs e traced end) (sym here) h.leads, omega (arith, ints, ap (total weight) none))

-- what a turn of the trace leaves
abbrev pub KeepsTraced : Extreme → List TimingArc → List ℕ → List Sums → ℕ → ℕ → ℕ → List ℕ → Type 0
KeepsTraced extreme arcs order sums end k bit path = (from : ℕ) (best : ℤ) → AreBestSums extreme arcs order from sums → sum_of extreme (sums_at sums end) ≡ Some best →
    IsTraced extreme arcs order sums from end best k bit (reverse path)

module _ (extreme : Extreme) (arcs : List TimingArc) (order : List ℕ) (is_order : IsOrder arcs order) (sums : List Sums) (end k bit : ℕ) (path : List ℕ) (low : k < length order)
    (from_in : (arc_at arcs (get_or order k 0)).from < length sums) (to_in : (arc_at arcs (get_or order k 0)).to < length sums) (h : KeepsTraced extreme arcs order sums end (k + 1) bit path) where
  abbrev arc : TimingArc
  arc = arc_at arcs (get_or order k 0)

  pub KeepsTraced-passed : (arc.to ≡ bit → IsThrough extreme sums arc → ⊥) → KeepsTraced extreme arcs order sums end k bit path
  KeepsTraced-passed is_not = λ from best sums_are best_is. IsTraced-passed extreme arcs order is_order sums from end best sums_are k bit (reverse path) low from_in to_in (h from best sums_are best_is) is_not

  pub KeepsTraced-taken : arc.to ≡ bit → IsThrough extreme sums arc → KeepsTraced extreme arcs order sums end k arc.from (path ++ get_or order k 0 ∷ [])
  KeepsTraced-taken enters is_through = λ from best sums_are best_is.
      subst (λ xs. IsTraced extreme arcs order sums from end best k arc.from xs) (sym (reverse-append path (get_or order k 0 ∷ [])))
      (IsTraced-taken extreme arcs order is_order sums from end best sums_are k bit (reverse path) low from_in to_in (h from best sums_are best_is) enters is_through)
