-- A design reversed has the same paths, from the back.
use Rattle.std.proofs.Common.{◌≡◌, ◌≢◌, ℕ, ◌<◌, ◌+◌, ◌-◌, ◌*◌, ℤ, ◌≤ℤ◌, pos, List, [], ◌∷◌, ◌++◌, length, get_or, reverse, arith, refl, ap, ◌∙◌, sym, subst}
use Rattle.std.proofs.lemmas.Int.{ints}
use Rattle.std.proofs.lemmas.List.{get_or-map, get_or_past, get_or-reverse, length-reverse, reverse-append}
use Rattle.std.proofs.lemmas.List.Sorted.{Contains-permutation, IsPermutation-reverse}
use Rattle.std.proofs.Math.ListN.{length-map}
use Rattle.std.specs.List.{All}
use Rattle.mintc_timing.specs.declared.parts.TimingArc.{TimingArc}
use Rattle.mintc_timing.specs.declared.parts.Pair.{Pair}
use Rattle.mintc_graph.specs.Rings.{total}
use Rattle.mintc_timing.specs.Design.{Design, no_arc}
use Rattle.mintc_timing.specs.Limits.{IsArc, IsDesign}
use Rattle.mintc_timing.specs.Order.{IsOrder, ArePathsShort}
use Rattle.mintc_timing.specs.Paths.{Leads, IsPath, arc_at, input_of, output_of, HasExtremes, IsGreatestDelay, IsLeastDelay}
use Rattle.mintc_timing.proofs.SharedOrdered.{inside, Leads-push}
use Rattle.mintc_graph.proofs.SharedRingLaws.{total-push}
use Rattle.mintc_paths_sums.specs.Placed.{row_of}
use Rattle.mintc_paths.specs.Longest.{AreRunsShort}
use Rattle.mintc_paths.specs.Sums.{LeadsBack}
use Rattle.mintc_paths.specs.Reversed.{reversed_bit, bit_before, reversed_arc, reversed_arcs, reversed_design, pair_back}
use Rattle.mintc_paths.proofs.Reversing.{before_input, before_output, before_reversed, reversed_input, reversed_output, reversed_below, reversed_before, reversed_apart}

reverse_cons : (n : ℕ) (path : List ℕ) → reverse (n ∷ path) ≡ reverse path ++ n ∷ []
reverse_cons n path = reverse-append (n ∷ []) path

total-reverse : (weight : ℕ → ℤ) (path : List ℕ) → total weight (reverse path) ≡ total weight path
total-reverse weight [] = refl
total-reverse weight (n ∷ path) = omega (arith, ints, total-reverse weight path, ap (total weight) (reverse_cons n path) ∙ total-push weight (reverse path) n)

total-alike : (f g : ℕ → ℤ) (path : List ℕ) → ((n : ℕ) → f n ≡ g n) → total f path ≡ total g path
total-alike f g [] same = refl
total-alike f g (n ∷ path) same = omega (arith, ints, same n, total-alike f g path same)

some-reverse : (path : List ℕ) → path ≢ [] → reverse path ≢ []
some-reverse [] some e = some refl
some-reverse (n ∷ path) some e = absurd (omega (arith, length-reverse (n ∷ path), ap (λ (xs : List ℕ). length xs) e))

module _ (n m : ℕ) (places elements : List ℕ) (there : LeadsBack n places elements) (back : LeadsBack n elements places) (arcs : List TimingArc)
    (each : All (IsArc n m) arcs) where
  abbrev reversed : List TimingArc
  reversed = reversed_arcs n places arcs

  abbrev goes : ℕ → ℕ
  goes = reversed_bit n places

  pub arc_reversed : (k : ℕ) → k < length arcs → arc_at reversed k ≡ reversed_arc n places (arc_at arcs k)
  arc_reversed k below = get_or-map (reversed_arc n places) arcs k no_arc no_arc below

  count_reversed : length reversed ≡ length arcs
  count_reversed = length-map arcs (reversed_arc n places)

  -- what the turning leaves of an arc
  same_reversed : (of : TimingArc → ℤ) → ((arc : TimingArc) → of (reversed_arc n places arc) ≡ of arc) → (k : ℕ) → of (arc_at reversed k) ≡ of (arc_at arcs k)
  same_reversed of kept k = grind (arith, arc_reversed, kept, get_or_past, count_reversed)

  -- A path of the one is a path of the other, from the back.
  pub Leads-forward : (from to : ℕ) (path : List ℕ) → Leads arcs from path to → Leads reversed (goes to) (reverse path) (goes from)
  Leads-forward from to [] h = ap goes (sym h)
  Leads-forward from to (k ∷ path) h =
      let is = arc_reversed k h.0 in
      let rest : Leads reversed (goes to) (reverse path) (arc_at reversed k).from = rw is (Leads-forward (arc_at arcs k).to to path h.2) in
      let ends : goes from ≡ (arc_at reversed k).to = rw (is, h.1) refl in
      rw (reverse_cons k path, ends) (Leads-push reversed (goes to) (reverse path) k (omega (arith, count_reversed, h.0)) rest)

  pub Leads-back : (from to : ℕ) (path : List ℕ) → Leads reversed (goes to) path (goes from) → Leads arcs from (reverse path) to
  Leads-back from to [] h = reversed_apart n places elements there back from to (sym h)
  Leads-back from to (k ∷ path) h =
      let low : k < length arcs = omega (arith, count_reversed, h.0) in
      let is = arc_reversed k low in
      let met : (arc_at arcs k).to ≡ to = reversed_apart n places elements there back (arc_at arcs k).to to (sym (ap (λ (a : TimingArc). a.from) is) ∙ h.1) in
      let rest = Leads-back from (arc_at arcs k).from path (rw is at h.2) in
      rw (reverse_cons k path, ← met) (Leads-push arcs from (reverse path) k low rest)

  IsArc-reversed : (arc : TimingArc) → IsArc n m arc → IsArc n m (reversed_arc n places arc)
  IsArc-reversed arc h = record {
    from = reversed_below n places elements there back m arc.to h.to;
    to = reversed_below n places elements there back m arc.from h.from;
    leaves = λ l low e. h.enters l low (sym (before_reversed n places elements there back arc.to) ∙ ap (bit_before n elements) e ∙ before_input n elements l low);
    enters = λ l low e. h.leaves (row_of elements l) (back.inside l low) (sym (before_reversed n places elements there back arc.from) ∙ ap (bit_before n elements) e ∙ before_output n elements l low);
    min = h.min;
    max = h.max;
    ordered = h.ordered;
  }

  pub each_reversed : All (IsArc n m) reversed
  each_reversed k d below =
      let low : k < length arcs = omega (arith, count_reversed) in
      subst (λ (a : TimingArc). IsArc n m a) (sym (get_or-map (reversed_arc n places) arcs k no_arc d low)) (IsArc-reversed (arc_at arcs k) (each k no_arc low))

  module _ (order : List ℕ) (is_order : IsOrder arcs order) where
    pub reversed_at : (i : ℕ) → i < length (reverse order) → arc_at reversed (get_or (reverse order) i 0) ≡ reversed_arc n places (arc_at arcs (get_or order (length order - 1 - i) 0))
    reversed_at i below =
        let low : i < length order = omega (arith, length-reverse order) in
        ap (arc_at reversed) (get_or-reverse order i 0 low) ∙ arc_reversed (get_or order (length order - 1 - i) 0) (inside arcs order is_order (length order - 1 - i) (omega arith))

    pub IsOrder-reversed : IsOrder reversed (reverse order)
    IsOrder-reversed = record {
      count = length-reverse order ∙ is_order.count ∙ sym count_reversed;
      whole = λ k below. Contains-permutation order (reverse order) k (IsPermutation-reverse order) (is_order.whole k (omega (arith, count_reversed)));
      ordered = λ i j low_i low_j met.
          let same = length-reverse order in
          let at_i = ap (λ (a : TimingArc). a.to) (reversed_at i low_i) in
          let at_j = ap (λ (a : TimingArc). a.from) (reversed_at j low_j) in
          let e = reversed_apart n places elements there back (arc_at arcs (get_or order (length order - 1 - i) 0)).from (arc_at arcs (get_or order (length order - 1 - j) 0)).to (sym at_i ∙ met ∙ at_j) in
          omega (arith, is_order.ordered (length order - 1 - j) (length order - 1 - i) (omega arith) (omega arith) (sym e));
    }

  -- from the output of the element at a place of the design reversed
  pub forward : (j l : ℕ) (path : List ℕ) → j < n → l < n → IsPath arcs j path (input_of l) → IsPath reversed (row_of places l) (reverse path) (input_of j)
  forward j l path from to h = (
    some-reverse path h.0,
    subst (λ b. Leads reversed b (reverse path) (input_of j)) (reversed_input n places l to)
        (subst (λ b. Leads reversed (goes (input_of l)) (reverse path) b) (reversed_output n places j from) (Leads-forward (output_of j) (input_of l) path h.1)),
  )

  pub from_back : (a b : ℕ) (path : List ℕ) → a < n → b < n → IsPath reversed a path (input_of b) → IsPath arcs b (reverse path) (input_of (row_of elements a))
  from_back a b path from to h =
      let at = back.inside a from in
      let is : goes (input_of (row_of elements a)) ≡ output_of a = reversed_input n places (row_of elements a) at ∙ ap (λ k. 2 * k + 1) (back.leads a from) in (
        some-reverse path h.0,
        Leads-back (output_of b) (input_of (row_of elements a)) path
            (subst (λ x. Leads reversed x path (goes (output_of b))) (sym is) (subst (λ x. Leads reversed (output_of a) path x) (sym (reversed_output n places b to)) h.1)),
      )

  back_again : (a b : ℕ) (path : List ℕ) → a < n → b < n → IsPath arcs b path (input_of (row_of elements a)) → IsPath reversed a (reverse path) (input_of b)
  back_again a b path from to h =
      subst (λ x. IsPath reversed x (reverse path) (input_of b)) (back.leads a from) (forward b (row_of elements a) path to (back.inside a from) h)

  sum_reversed : (of : TimingArc → ℤ) → ((arc : TimingArc) → of (reversed_arc n places arc) ≡ of arc) → (path : List ℕ) →
      total (λ k. of (arc_at reversed k)) (reverse path) ≡ total (λ k. of (arc_at arcs k)) path
  sum_reversed of kept path = total-reverse (λ k. of (arc_at reversed k)) path ∙ total-alike (λ k. of (arc_at reversed k)) (λ k. of (arc_at arcs k)) path (same_reversed of kept)

  sum_back : (of : TimingArc → ℤ) → ((arc : TimingArc) → of (reversed_arc n places arc) ≡ of arc) → (path : List ℕ) →
      total (λ k. of (arc_at arcs k)) (reverse path) ≡ total (λ k. of (arc_at reversed k)) path
  sum_back of kept path = total-reverse (λ k. of (arc_at arcs k)) path ∙ sym (total-alike (λ k. of (arc_at reversed k)) (λ k. of (arc_at arcs k)) path (same_reversed of kept))

  pub greatest_back : (a b : ℕ) (x : ℤ) → a < n → b < n → IsGreatestDelay reversed a (input_of b) x → IsGreatestDelay arcs b (input_of (row_of elements a)) x
  greatest_back a b x from to h = record {
    attained = let at = h.attained in (reverse at.0, from_back a b at.0 from to at.1, sum_back (λ (a : TimingArc). a.max) (λ arc. refl) at.0 ∙ at.2);
    bound = λ path g. subst (λ z. z ≤ℤ x) (sum_reversed (λ (a : TimingArc). a.max) (λ arc. refl) path) (h.bound (reverse path) (back_again a b path from to g));
  }

  pub least_back : (a b : ℕ) (x : ℤ) → a < n → b < n → IsLeastDelay reversed a (input_of b) x → IsLeastDelay arcs b (input_of (row_of elements a)) x
  least_back a b x from to h = record {
    attained = let at = h.attained in (reverse at.0, from_back a b at.0 from to at.1, sum_back (λ (a : TimingArc). a.min) (λ arc. refl) at.0 ∙ at.2);
    bound = λ path g. subst (λ z. x ≤ℤ z) (sum_reversed (λ (a : TimingArc). a.min) (λ arc. refl) path) (h.bound (reverse path) (back_again a b path from to g));
  }

module _ (design : Design) (places elements : List ℕ) (kept : IsDesign design) (there : LeadsBack (length design.elements) places elements) (back : LeadsBack (length design.elements) elements places) where
  pub IsDesign-reversed : IsDesign (reversed_design places design)
  IsDesign-reversed = record {
    inner = kept.inner;
    phases = kept.phases;
    elements = kept.elements;
    arcs = omega (arith, length-map design.arcs (reversed_arc (length design.elements) places));
    bounds = kept.bounds;
    each_element = kept.each_element;
    each_arc = each_reversed (length design.elements) (length design.inner) places elements there back design.arcs kept.each_arc;
    each_bound = kept.each_bound;
  }

  pub ArePathsShort-reversed : AreRunsShort design.arcs → ArePathsShort (reversed_design places design)
  ArePathsShort-reversed short j bit path below is =
      let n : ℕ = length design.elements in
      let m : ℕ = length design.inner in
      let from : ℕ = bit_before n elements (output_of j) in
      let to : ℕ = bit_before n elements bit in
      let starts : reversed_bit n places from ≡ output_of j = reversed_before n places elements there back (output_of j) in
      let ends : reversed_bit n places to ≡ bit = reversed_before n places elements there back bit in
      let leads = Leads-back n m places elements there back design.arcs kept.each_arc to from path
      (subst (λ x. Leads (reversed_arcs n places design.arcs) x path (reversed_bit n places to)) (sym starts) (subst (λ x. Leads (reversed_arcs n places design.arcs) (output_of j) path x) (sym ends) is.1)) in
      subst (λ z. z ≤ℤ pos 1000000000) (sum_back n m places elements there back design.arcs kept.each_arc (λ (a : TimingArc). a.max) (λ arc. refl) path) (short to (reverse path) from leads)

  pub HasExtremes-back : (pair : Pair) → HasExtremes (reversed_design places design) pair → HasExtremes design (pair_back elements pair)
  HasExtremes-back pair h = record {
    from = h.to;
    to = back.inside pair.from h.from;
    greatest = greatest_back (length design.elements) (length design.inner) places elements there back design.arcs kept.each_arc pair.from pair.to pair.max h.from h.to h.greatest;
    least = least_back (length design.elements) (length design.inner) places elements there back design.arcs kept.each_arc pair.from pair.to pair.min h.from h.to h.least;
  }
