-- Labels along one more arc.
use Rattle.std.proofs.Common.{◌≡◌, ◌≢◌, ℕ, ◌<◌, ◌+◌, ℤ, ◌+ℤ◌, ◌*ℤ◌, List, [], ◌∷◌, ◌++◌, length, get_or, arith, refl, ap, ◌∙◌, ◌⊎◌, inl, inr, ⊎_elim, Option, subst}
use Rattle.std.specs.Int.{int_max}
use Rattle.std.proofs.lemmas.Int.{ints}
use Rattle.mintc_timing.specs.Design.{Design, element_at}
use Rattle.mintc_timing.specs.Order.{IsOrder}
use Rattle.mintc_timing.specs.Paths.{arc_at, output_of, greatest_delay}
use Rattle.mintc_timing.proofs.SharedProducts.{add-times}
use Rattle.mintc_timing.specs.Among.{IsAmong}
use Rattle.mintc_timing.proofs.SharedOrdered.{Leads-push, AreAmong-push, AreAmong-more, split, inside}
use Rattle.mintc_graph.proofs.SharedRingLaws.{total-push}
use Rattle.mintc_lanes.specs.Lanes.{joined}
use Rattle.mintc_checker.specs.Trails.{IsGreatestTime, LeadsFrom, time_along}
use Rattle.mintc_checker.specs.Labels.{IsAlong}
use Rattle.mintc_checker.proofs.Greatest.{greatest_same, greatest_joined}

module _ (design : Design) (den : ℤ) (d : List ℤ) where
  -- one more arc at the end of a trail
  pub time-push : (j : ℕ) (path : List ℕ) (n : ℕ) → time_along design den d j (path ++ n ∷ []) ≡ time_along design den d j path +ℤ (arc_at design.arcs n).max *ℤ den
  time-push j path n =
      let weight : ℕ → ℤ = λ m. (arc_at design.arcs m).max in
      let sum : greatest_delay design.arcs (path ++ n ∷ []) ≡ greatest_delay design.arcs path +ℤ weight n = total-push weight path n in
      let dq : ℤ = (element_at design j).dq_max in
      let whole : dq +ℤ greatest_delay design.arcs (path ++ n ∷ []) ≡ (dq +ℤ greatest_delay design.arcs path) +ℤ weight n = omega (arith, ints) in
      let times : (dq +ℤ greatest_delay design.arcs (path ++ n ∷ [])) *ℤ den ≡ (dq +ℤ greatest_delay design.arcs path) *ℤ den +ℤ weight n *ℤ den =
      ap (λ v. v *ℤ den) whole ∙ add-times (dq +ℤ greatest_delay design.arcs path) (weight n) den in
      omega (arith, ints)

  LeadsFrom-push : (p j : ℕ) (path : List ℕ) (n : ℕ) → n < length design.arcs → LeadsFrom design p (arc_at design.arcs n).from j path → LeadsFrom design p (arc_at design.arcs n).to j (path ++ n ∷ [])
  LeadsFrom-push p j path n below h = record {
    trail = record { element = h.trail.element; leads = Leads-push design.arcs (output_of j) path n below h.trail.leads };
    phase = h.phase;
  }

  module _ (order : List ℕ) (is_order : IsOrder design.arcs order) (k n : ℕ) (low : k < length order) (is : get_or order k 0 ≡ n) where
    abbrev from : ℕ
    from = (arc_at design.arcs n).from

    abbrev to : ℕ
    to = (arc_at design.arcs n).to

    abbrev Trails : ℕ → ℕ → ℕ → ℕ → List ℕ → Type 0
    Trails i p bit j path = LeadsFrom design p bit j path × IsAlong order i j path

    below : n < length design.arcs
    below = subst (λ m. m < length design.arcs) is (inside design.arcs order is_order k low)

    more : (p bit j : ℕ) (path : List ℕ) → Trails k p bit j path → Trails (k + 1) p bit j path
    more p bit j path h = (h.0, AreAmong-more order k path h.1)

    longer : (p j : ℕ) (path : List ℕ) → Trails k p from j path → (after : List ℕ) × Trails (k + 1) p to j after × (time_along design den d j after ≡ time_along design den d j path +ℤ (arc_at design.arcs n).max *ℤ den)
    longer p j path h =
        let last : IsAmong order (k + 1) n = (k, omega arith, low, is) in
        (path ++ n ∷ [], (LeadsFrom-push p j path n below h.0, AreAmong-push order (k + 1) path n (AreAmong-more order k path h.1) last), time-push j path n)

    -- A trail along the first k + 1 arcs keeps to the first k, or ends with the arc at k.
    last : (p bit j : ℕ) (path : List ℕ) → Trails (k + 1) p bit j path →
        Trails k p bit j path ⊎ ((bit ≡ to) × ((before : List ℕ) × Trails k p from j before × (time_along design den d j path ≡ time_along design den d j before +ℤ (arc_at design.arcs n).max *ℤ den)))
    last p bit j path h =
        ⊎_elim (λ old. inl (h.0, old))
        (λ new.
        inr (rw is at new.3, (new.0, (record { trail = record { element = h.0.trail.element; leads = rw is at new.2 }; phase = h.0.phase }, new.1), ap (time_along design den d j) (rw is at new.4) ∙ time-push j new.0 n)))
        (split design.arcs order is_order (output_of j) path bit k low h.0.trail.leads h.1)

    -- A bit that the arc doesn't enter keeps its labels; the one that it enters takes those of the other end.
    pub label-other : (p bit : ℕ) (x : Option ℤ) → bit ≢ to → IsGreatestTime (Trails k p bit) (time_along design den d) x → IsGreatestTime (Trails (k + 1) p bit) (time_along design den d) x
    label-other p bit x ne h =
        greatest_same (Trails k p bit) (Trails (k + 1) p bit) (time_along design den d) (more p bit)
        (λ j path g. ⊎_elim (λ old. old) (λ new. absurd (ne new.0)) (last p bit j path g)) x h

    pub label-joined : (p : ℕ) (x y : Option ℤ) → IsGreatestTime (Trails k p to) (time_along design den d) x → IsGreatestTime (Trails k p from) (time_along design den d) y →
        IsGreatestTime (Trails (k + 1) p to) (time_along design den d) (joined int_max x y ((arc_at design.arcs n).max *ℤ den))
    label-joined p x y h g =
        greatest_joined (Trails k p to) (Trails k p from) (Trails (k + 1) p to) (time_along design den d) (time_along design den d) (time_along design den d) ((arc_at design.arcs n).max *ℤ den)
        (λ j path t. (more p to j path t, refl)) (longer p) (λ j path t. ⊎_elim (λ old. inl (old, refl)) (λ new. inr new.1) (last p to j path t)) x y h g
