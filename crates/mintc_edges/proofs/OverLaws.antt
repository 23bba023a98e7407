-- Lists whose items each lie on one of another list.
use Rattle.std.proofs.Common.{List, [], ◌∷◌, ◌++◌, map, flat_map, All, Any, arith, refl}
use Rattle.std.proofs.lemmas.List.Elements.{All-nil, All-cons, All-head, All-tail, All-append, All-weaker, Contains-append_left, Contains-append_right}
use Rattle.mintc_edges.specs.declared.edge.Edge.{Edge}
use Rattle.mintc_edges.specs.declared.edge.Edge.TheVariants.{Rise, Fall}
use Rattle.mintc_edges.specs.Edges.{each_edge}

module _ {X Y : Type 0} (R : X → Y → Type 0) where
  -- each item lies on one of the others
  abbrev pub Over : List X → List Y → Type 0
  Over xs ys = All (λ x. Any (R x) ys) xs

  any-left : (x : X) (ys zs : List Y) → Any (R x) ys → Any (R x) (ys ++ zs)
  any-left x ys zs h = let at = Contains-append_left ys zs h.1 (h.0, h.2, h.3) in (at.0, h.1, at.1, at.2, h.4)

  any-right : (x : X) (ys zs : List Y) → Any (R x) zs → Any (R x) (ys ++ zs)
  any-right x ys zs h = let at = Contains-append_right ys zs h.1 (h.0, h.2, h.3) in (at.0, h.1, at.1, at.2, h.4)

  pub over-nil : (ys : List Y) → Over [] ys
  over-nil ys = All-nil (λ x. Any (R x) ys)

  pub over-append : (xs ws : List X) (ys zs : List Y) → Over xs ys → Over ws zs → Over (xs ++ ws) (ys ++ zs)
  over-append xs ws ys zs h k =
      All-append (λ x. Any (R x) (ys ++ zs)) xs ws
      (All-weaker (λ x. Any (R x) ys) (λ x. Any (R x) (ys ++ zs)) (λ x. any-left x ys zs) xs h)
      (All-weaker (λ x. Any (R x) zs) (λ x. Any (R x) (ys ++ zs)) (λ x. any-right x ys zs) ws k)

  pub over-flat : {S : Type 0} (g : S → List X) (f : S → List Y) (ss : List S) → All (λ s. Over (g s) (f s)) ss → Over (flat_map g ss) (flat_map f ss)
  over-flat g f [] h = over-nil []
  over-flat g f (s ∷ ss) h = over-append (g s) (flat_map g ss) (f s) (flat_map f ss) (All-head (λ s. Over (g s) (f s)) s ss h) (over-flat g f ss (All-tail (λ s. Over (g s) (f s)) s ss h))

  -- all on one item
  pub over-one : (xs : List X) (y : Y) → All (λ x. R x y) xs → Over xs (y ∷ [])
  over-one xs y h = All-weaker (λ x. R x y) (λ x. Any (R x) (y ∷ [])) (λ x r. (0, y, omega arith, refl, r)) xs h

  pub over-map : {S : Type 0} (g : S → List X) (f : S → Y) (ss : List S) → ((s : S) → All (λ x. R x (f s)) (g s)) → Over (flat_map g ss) (map f ss)
  over-map g f [] h = over-nil []
  over-map g f (s ∷ ss) h =
      over-append (g s) (flat_map g ss) (f s ∷ []) (map f ss) (over-one (g s) (f s) (h s)) (over-map g f ss h)

-- what holds of what is made of each edge
pub all-edges : {X : Type 0} (P : X → Type 0) (g : Edge → X) → ((e : Edge) → P (g e)) → All P (each_edge g)
all-edges P g h = All-cons P (g Rise) (g Fall ∷ []) (h Rise) (All-cons P (g Fall) [] (h Fall) (All-nil P))

pub all-map : {S X : Type 0} (P : X → Type 0) (g : S → X) → ((s : S) → P (g s)) → (ss : List S) → All P (map g ss)
all-map P g h [] = All-nil P
all-map P g h (s ∷ ss) = All-cons P (g s) (map g ss) (h s) (all-map P g h ss)
