-- What the code reads of a vector that it passes on.
use Rattle.std.proofs.Common.{◌≡◌, ℕ, suc, ◌<◌, ℤ, List, [], ◌∷◌, length, refl, ap, ◌∙◌, sym, subst, arith, w64, to_z, of_z, SFits, map}
use Rattle.std.proofs.lemmas.Int.{to_z-of_z}
use Rattle.mintc_lanes.specs.Vectors.{IsVector, number_at}

-- a vector as the code reads it
abbrev pub read : List ℤ → List ℤ
read v = map (to_z w64) (map (of_z w64) v)

read_each : (v : List ℤ) → ((k : ℕ) → k < length v → SFits w64 (number_at v k)) → read v ≡ v
read_each [] fits = refl
read_each (x ∷ v) fits =
    ap (λ z. z ∷ read v) (to_z-of_z w64 x (fits 0 (omega arith))) ∙ ap (λ z. x ∷ z) (read_each v (λ k lt. fits (suc k) (omega arith)))

pub read_is : (v : List ℤ) → IsVector v → read v ≡ v
read_is v p = let count = p.count in read_each v (λ k lt. p.fits k (omega arith))

pub read_vector : (v : List ℤ) → IsVector v → IsVector (map (to_z w64) (map (of_z w64) v))
read_vector v p = subst IsVector (sym (read_is v p)) p
