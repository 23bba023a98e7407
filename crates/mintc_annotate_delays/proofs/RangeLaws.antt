-- The least and the greatest of what is said, as it grows.
use Rattle.std.proofs.Common.{◌≡◌, ℤ, Bool, true, cond, List, [], ◌∷◌, ◌++◌, Option, Some, None, refl, ap, ◌∙◌, arith}
use Rattle.std.proofs.lemmas.Int.{ints, int_min_is, int_max_is}
use Rattle.std.specs.Int.{int_min, int_max}
use Rattle.mintc_annotate_resolve.specs.Resolution.{Target, Said, same_target, widened, range_of}

min_swap : (x y z : ℤ) → int_min x (int_min y z) ≡ int_min y (int_min x z)
min_swap x y z = omega (arith, ints, int_min_is x (int_min y z), int_min_is y z, int_min_is y (int_min x z), int_min_is x z)

max_swap : (x y z : ℤ) → int_max x (int_max y z) ≡ int_max y (int_max x z)
max_swap x y z = omega (arith, ints, int_max_is x (int_max y z), int_max_is y z, int_max_is y (int_max x z), int_max_is x z)

min_turn : (x y : ℤ) → int_min x y ≡ int_min y x
min_turn x y = omega (arith, ints, int_min_is x y, int_min_is y x)

max_turn : (x y : ℤ) → int_max x y ≡ int_max y x
max_turn x y = omega (arith, ints, int_max_is x y, int_max_is y x)

-- two ranges widen a third in any order
widened_swap : (a b c d : ℤ) (r : Option (ℤ × ℤ)) → widened a b (Some (widened c d r)) ≡ widened c d (Some (widened a b r))
widened_swap a b c d None = ap (λ (x : ℤ). (x, int_max b d)) (min_turn a c) ∙ ap (λ (y : ℤ). (int_min c a, y)) (max_turn b d)
widened_swap a b c d (Some r) = ap (λ (x : ℤ). (x, int_max b (int_max d r.1))) (min_swap a c r.0) ∙ ap (λ (y : ℤ). (int_min c (int_min a r.0), y)) (max_swap b d r.1)

swap : (s t : Bool) (a b c d : ℤ) (r : Option (ℤ × ℤ)) →
    cond s (Some (widened a b (cond t (Some (widened c d r)) r))) (cond t (Some (widened c d r)) r) ≡ cond t (Some (widened c d (cond s (Some (widened a b r)) r))) (cond s (Some (widened a b r)) r)
swap true true a b c d r = ap Some (widened_swap a b c d r)
swap _ _ a b c d r = refl

-- one more that is said
pub range_push : (ss : List Said) (s : Said) (m : Target) → range_of (ss ++ s ∷ []) m ≡ cond (same_target s.target m) (Some (widened s.least s.greatest (range_of ss m))) (range_of ss m)
range_push [] s m = refl
range_push (x ∷ ss) s m =
    ap (λ r. cond (same_target x.target m) (Some (widened x.least x.greatest r)) r) (range_push ss s m)
    ∙ swap (same_target x.target m) (same_target s.target m) x.least x.greatest s.least s.greatest (range_of ss m)
