-- What is among a list has a place in it.
use Rattle.std.proofs.Common.{◌≡◌, ℕ, suc, ◌+◌, ◌<◌, List, [], ◌∷◌, length, Bool, true, false, Some, None, not, ◌||◌, cond, nat_lt, position, IsSome, arith}
use Rattle.std.specs.List.{position_or_len, list_any}
use Rattle.std.proofs.lemmas.Bool.Decides.{nat_tests}

-- a name among others has a place
any_cons : (b : Bool) (n L : ℕ) (a : Bool) → (b || a) ≡ true → (a ≡ true → n < L) → cond (not b) (1 + n) 0 < suc L
any_cons true n L a h k = omega arith
any_cons false n L a h k = let below : n < L = k h in omega arith

pub any_below : {X : Type 0} (p : X → Bool) (xs : List X) → list_any p xs ≡ true → position_or_len p xs < length xs
any_below p [] h = cc
any_below p (x ∷ xs) h = any_cons (p x) (position_or_len p xs) (length xs) (list_any p xs) h (any_below p xs)

some_by : (n L : ℕ) → n < L → IsSome (cond (nat_lt n L) (Some n) None)
some_by n L h = let e : nat_lt n L ≡ true = grind (arith, nat_tests) in rw e

pub place_of_any : {X : Type 0} (p : X → Bool) (xs : List X) → list_any p xs ≡ true → IsSome (position p xs)
place_of_any p xs h = some_by (position_or_len p xs) (length xs) (any_below p xs h)
