-- What the code reads of a number of 128 bits.
use Rattle.std.proofs.Common.{◌≡◌, ℤ, ◌*ℤ◌}
use Rattle.std.proofs.lemmas.Int.{to_z-of_z}
use mir.Syntax.{w128}
use mir.Val.{SFits, to_z, of_z}

-- a product of two numbers that were read
pub read_product : (x y x' y' r : ℤ) → SFits w128 x → SFits w128 y → x ≡ x' → y ≡ y' →
    r ≡ to_z w128 (of_z w128 x) *ℤ to_z w128 (of_z w128 y) → r ≡ x' *ℤ y'
read_product x y x' y' r p q e f h = rw (to_z-of_z w128 x p, to_z-of_z w128 y q, e, f) at h
