-- Lists that have two items for each item of another.
use Rattle.std.proofs.Common.{◌≡◌, ℕ, zero, suc, ◌<◌, ◌*◌, ◌/◌, List, [], ◌∷◌, ◌++◌, map, flat_map, length, get_or, arith, refl, sym, subst}
use Rattle.mintc_edges.specs.declared.edge.Edge.{Edge}
use Rattle.mintc_edges.specs.declared.edge.Edge.TheVariants.{Rise, Fall}
use Rattle.mintc_edges.specs.Edges.{each_edge}

module _ {X : Type 0} (R : X → X → Type 0) where
  -- the second list has two items for each of the first, which stand to it so
  abbrev pub Twice : List X → List X → Type 0
  Twice [] [] = Unit {0}
  Twice [] (a ∷ as') = ⊥
  Twice (x ∷ xs) [] = ⊥
  Twice (x ∷ xs) (a ∷ []) = ⊥
  Twice (x ∷ xs) (a ∷ b ∷ as') = R x a × R x b × Twice xs as'

  pub twice-append : (xs as' ys bs : List X) → Twice xs as' → Twice ys bs → Twice (xs ++ ys) (as' ++ bs)
  twice-append [] [] ys bs h k = k
  twice-append [] (a ∷ as') ys bs h k = absurd h
  twice-append (x ∷ xs) [] ys bs h k = absurd h
  twice-append (x ∷ xs) (a ∷ []) ys bs h k = absurd h
  twice-append (x ∷ xs) (a ∷ b ∷ as') ys bs h k = (h.0, h.1, twice-append xs as' ys bs h.2 k)

  pub twice-each : {S : Type 0} (f : S → X) (g : S → Edge → X) → ((s : S) (e : Edge) → R (f s) (g s e)) → (ss : List S) → Twice (map f ss) (flat_map (λ s. each_edge (g s)) ss)
  twice-each f g h [] = tt
  twice-each f g h (s ∷ ss) = (h s Rise, h s Fall, twice-each f g h ss)

  pub twice-count : (xs as' : List X) → Twice xs as' → length as' ≡ 2 * length xs
  twice-count [] [] h = refl
  twice-count [] (a ∷ as') h = absurd h
  twice-count (x ∷ xs) [] h = absurd h
  twice-count (x ∷ xs) (a ∷ []) h = absurd h
  twice-count (x ∷ xs) (a ∷ b ∷ as') h = let rest = twice-count xs as' h.2 in omega arith

  pub twice-at : (xs as' : List X) → Twice xs as' → (m : ℕ) (d : X) → m < length as' → R (get_or xs (m / 2) d) (get_or as' m d)
  twice-at [] [] h m d below = absurd (omega arith)
  twice-at [] (a ∷ as') h m d below = absurd h
  twice-at (x ∷ xs) [] h m d below = absurd h
  twice-at (x ∷ xs) (a ∷ []) h m d below = absurd h
  twice-at (x ∷ xs) (a ∷ b ∷ as') h zero d below = h.0
  twice-at (x ∷ xs) (a ∷ b ∷ as') h (suc zero) d below = h.1
  twice-at (x ∷ xs) (a ∷ b ∷ as') h (suc (suc m)) d below =
      let half : suc (suc m) / 2 ≡ suc (m / 2) = omega arith in
      subst (λ k. R (get_or (x ∷ xs) k d) (get_or as' m d)) (sym half) (twice-at xs as' h.2 m d (omega arith))
