-- greatest numbers: one more, and of greater ones
use Rattle.std.proofs.Common.{◌≡◌, ℤ, ◌≤ℤ◌, List, [], ◌∷◌, map, arith, Option, Some}
use Rattle.std.proofs.lemmas.Int.{ints, clamps}
use Rattle.std.specs.Int.{int_max}
use Rattle.mintc_timing.specs.Extremes.{greater_of, greatest_of}
use Rattle.mintc_departure.specs.declared.latest.TheConstants.{LONG_AGO}
use Rattle.mintc_departure.specs.Excesses.{IsLast}
use Rattle.mintc_departure.specs.Rounds.{IsArrivalSum}
use Rattle.mintc_departure.proofs.SharedLesser.{IsNoLater}

-- an arrival more
pub last-more : (o : Option ℤ) (v y : ℤ) → IsArrivalSum y → IsLast o v → IsLast (Some (greater_of y o)) (int_max y v)
last-more o v y r is = (grind (arith, ints, clamps), (grind (arith, ints, clamps), grind (arith, ints, clamps)))

-- what is found where a number stands for it
pub last-some : (o : Option ℤ) (last : ℤ) → IsLast o last → (last ≡ LONG_AGO → ⊥) → o ≡ Some last
last-some o last is ne = grind arith

greater_of-mono : (x y : ℤ) (o p : Option ℤ) → x ≤ℤ y → IsNoLater o p → greater_of x o ≤ℤ greater_of y p
greater_of-mono x y o p h k = grind (arith, ints, clamps)

-- the greatest of greater numbers is no less
pub greatest-mono : {X : Type 0} (f g : X → ℤ) → ((x : X) → f x ≤ℤ g x) → (xs : List X) → IsNoLater (greatest_of (map f xs)) (greatest_of (map g xs))
greatest-mono f g h [] = tt
greatest-mono f g h (x ∷ xs) = greater_of-mono (f x) (g x) (greatest_of (map f xs)) (greatest_of (map g xs)) (h x) (greatest-mono f g h xs)
