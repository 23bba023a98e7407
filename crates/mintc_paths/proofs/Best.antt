-- The best sums along one more arc.
use Rattle.std.proofs.Common.{◌≡◌, ◌≢◌, ℕ, ◌<◌, ◌+◌, ℤ, ◌+ℤ◌, ◌≤ℤ◌, pos, List, [], ◌∷◌, ◌++◌, length, get_or, arith, refl, ap, ◌∙◌, sym, ◌⊎◌, inl, inr, ⊎_elim, Option, Some, None, subst}
use Rattle.std.specs.Prelude.{IfSome, IsSomeAnd}
use Rattle.std.specs.Int.{int_max, int_min}
use Rattle.std.proofs.lemmas.Int.{ints, clamps, by_lt_z}
use Rattle.mintc_timing.specs.declared.parts.TimingArc.{TimingArc}
use Rattle.mintc_graph.specs.Rings.{total}
use Rattle.mintc_timing.specs.Paths.{Leads, arc_at}
use Rattle.mintc_timing.specs.Order.{IsOrder}
use Rattle.mintc_timing.specs.Among.{IsAmong, AreAmong}
use Rattle.mintc_timing.proofs.SharedOrdered.{Leads-push, AreAmong-push, AreAmong-more, inside, split, none_among}
use Rattle.mintc_graph.proofs.SharedRingLaws.{total-push}
use Rattle.mintc_lanes.specs.Lanes.{joined}
use Rattle.mintc_paths.specs.Among.{IsBest, AtLeast}

-- A choice of one of two numbers, by what is at most what.
pub record IsChoiceBy (AtMost : ℤ → ℤ → Type 0) (choose : ℤ → ℤ → ℤ) : Type 0 where
  pub same : (x : ℤ) → AtMost x x
  pub trans : (x y z : ℤ) → AtMost x y → AtMost y z → AtMost x z
  pub plus : (x y z : ℤ) → AtMost x y → AtMost (x +ℤ z) (y +ℤ z)
  pub one : (x y : ℤ) → (choose x y ≡ x) ⊎ (choose x y ≡ y)
  pub left : (x y : ℤ) → AtMost x (choose x y)
  pub right : (x y : ℤ) → AtMost y (choose x y)

pub greatest_choice : IsChoiceBy ◌≤ℤ◌ int_max
greatest_choice = record {
  same = λ x. omega (arith, ints);
  trans = λ x y z h g. omega (arith, ints);
  plus = λ x y z h. omega (arith, ints);
  one = λ x y. by_lt_z x y (λ h. inr (omega (arith, ints, clamps))) (λ h. inl (omega (arith, ints, clamps)));
  left = λ x y. omega (arith, ints, clamps);
  right = λ x y. omega (arith, ints, clamps);
}

pub least_choice : IsChoiceBy AtLeast int_min
least_choice = record {
  same = λ x. omega (arith, ints);
  trans = λ x y z h g. omega (arith, ints);
  plus = λ x y z h. omega (arith, ints);
  one = λ x y. by_lt_z x y (λ h. inl (omega (arith, ints, clamps))) (λ h. inr (omega (arith, ints, clamps)));
  left = λ x y. omega (arith, ints, clamps);
  right = λ x y. omega (arith, ints, clamps);
}

module _ (AtMost : ℤ → ℤ → Type 0) (choose : ℤ → ℤ → ℤ) (choice : IsChoiceBy AtMost choose) (weight : ℕ → ℤ) (arcs : List TimingArc) (order : List ℕ) where
  -- along no arcs only the empty path leads
  pub IsBest-here : (from : ℕ) → IsBest AtMost weight arcs order 0 from from (Some (pos 0))
  IsBest-here from = record {
    attained = ([], tt, refl, refl);
    bound = λ path g h. subst (λ xs. AtMost (total weight xs) (pos 0)) (sym (none_among order path g)) (choice.same (pos 0));
  }

  pub IsBest-none : (from to : ℕ) → from ≢ to → IsBest AtMost weight arcs order 0 from to None
  IsBest-none from to ne = record {
    attained = tt;
    bound = λ path g h. ne (subst (λ xs. Leads arcs from xs to) (none_among order path g) h);
  }

  pub IsBest-begun : (from to : ℕ) (x : Option ℤ) → ((to ≡ from) × (x ≡ Some (pos 0))) ⊎ ((to ≢ from) × (x ≡ None)) → IsBest AtMost weight arcs order 0 from to x
  IsBest-begun from to x (inl h) = subst (λ o. IsBest AtMost weight arcs order 0 from to o) (sym h.1) (subst (λ b. IsBest AtMost weight arcs order 0 from b (Some (pos 0))) (sym h.0) (IsBest-here from))
  IsBest-begun from to x (inr h) = subst (λ o. IsBest AtMost weight arcs order 0 from to o) (sym h.1) (IsBest-none from to (λ e. h.0 (sym e)))

  -- what a path sums to beside the old best and that of the arc's first bit
  old_bound : (s : ℤ) (x y : Option ℤ) (w : ℤ) → IsSomeAnd x (λ z. AtMost s z) → IsSomeAnd (joined choose x y w) (λ z. AtMost s z)
  old_bound s (Some x) None w h = h
  old_bound s (Some x) (Some y) w h = choice.trans s x (choose x (y +ℤ w)) h (choice.left x (y +ℤ w))
  old_bound s None y w h = absurd h

  new_bound : (s : ℤ) (x y : Option ℤ) (w : ℤ) → IsSomeAnd y (λ z. AtMost s z) → IsSomeAnd (joined choose x y w) (λ z. AtMost (s +ℤ w) z)
  new_bound s x None w h = absurd h
  new_bound s None (Some y) w h = choice.plus s y w h
  new_bound s (Some x) (Some y) w h = choice.trans (s +ℤ w) (y +ℤ w) (choose x (y +ℤ w)) (choice.plus s y w h) (choice.right x (y +ℤ w))

  abbrev Attains : ℕ → ℕ → ℕ → ℤ → Type 0
  Attains k from to z = (path : List ℕ) × AreAmong order k path × Leads arcs from path to × (total weight path ≡ z)

  Attains-same : (k from to : ℕ) (z y : ℤ) → z ≡ y → Attains k from to z → Attains k from to y
  Attains-same k from to z y e h = (h.0, h.1, h.2, h.3 ∙ e)

  Attains-more : (k from to : ℕ) (best : Option ℤ) → IfSome best (Attains k from to) → IfSome best (Attains (k + 1) from to)
  Attains-more k from to None h = tt
  Attains-more k from to (Some z) h = (h.0, AreAmong-more order k h.0 h.1, h.2, h.3)

  -- the arc at a place of the order
  abbrev arc_of : ℕ → TimingArc
  arc_of k = arc_at arcs (get_or order k 0)

  Attains-along : IsOrder arcs order → (k from : ℕ) → k < length order → (best : Option ℤ) →
      IfSome best (Attains k from (arc_of k).from) → IfSome best (λ z. Attains (k + 1) from (arc_of k).to (z +ℤ weight (get_or order k 0)))
  Attains-along is_order k from low None h = tt
  Attains-along is_order k from low (Some z) h =
      let n : ℕ = get_or order k 0 in
      let last : IsAmong order (k + 1) n = (k, omega arith, low, refl) in
      (h.0 ++ n ∷ [], AreAmong-push order (k + 1) h.0 n (AreAmong-more order k h.0 h.1) last, Leads-push arcs from h.0 n (inside arcs order is_order k low) h.2, total-push weight h.0 n ∙ ap (λ z. z +ℤ weight n) h.3)

  attained_joined : (k from to : ℕ) (x y : Option ℤ) (w : ℤ) → IfSome x (Attains k from to) → IfSome y (λ z. Attains k from to (z +ℤ w)) →
      IfSome (joined choose x y w) (Attains k from to)
  attained_joined k from to None None w h g = tt
  attained_joined k from to (Some x) None w h g = h
  attained_joined k from to None (Some y) w h g = g
  attained_joined k from to (Some x) (Some y) w h g =
      ⊎_elim (λ (e : choose x (y +ℤ w) ≡ x). Attains-same k from to x (choose x (y +ℤ w)) (sym e) h)
      (λ (e : choose x (y +ℤ w) ≡ y +ℤ w). Attains-same k from to (y +ℤ w) (choose x (y +ℤ w)) (sym e) g)
      (choice.one x (y +ℤ w))

  -- The arc at k changes the best sum to the bit that it enters alone.
  pub IsBest-other : IsOrder arcs order → (k from to : ℕ) (x : Option ℤ) → k < length order → to ≢ (arc_of k).to →
      IsBest AtMost weight arcs order k from to x → IsBest AtMost weight arcs order (k + 1) from to x
  IsBest-other is_order k from to x low ne h = record {
    attained = Attains-more k from to x h.attained;
    bound = λ path g lead. ⊎_elim (λ old. h.bound path old lead) (λ new. absurd (ne new.3)) (split arcs order is_order from path to k low lead g);
  }

  pub IsBest-joined : IsOrder arcs order → (k from : ℕ) (x y : Option ℤ) → k < length order →
      IsBest AtMost weight arcs order k from (arc_of k).to x → IsBest AtMost weight arcs order k from (arc_of k).from y →
      IsBest AtMost weight arcs order (k + 1) from (arc_of k).to (joined choose x y (weight (get_or order k 0)))
  IsBest-joined is_order k from x y low h g = let gain : ℤ = weight (get_or order k 0) in record {
    attained = attained_joined (k + 1) from (arc_of k).to x y gain (Attains-more k from (arc_of k).to x h.attained) (Attains-along is_order k from low y g.attained);
    bound = λ path among lead.
        ⊎_elim (λ old. old_bound (total weight path) x y gain (h.bound path old lead))
        (λ new. rw (new.4, total-push weight new.0 (get_or order k 0)) (new_bound (total weight new.0) x y gain (g.bound new.0 new.1 new.2)))
        (split arcs order is_order from path (arc_of k).to k low lead among);
  }
