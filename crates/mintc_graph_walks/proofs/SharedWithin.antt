-- Integers within a bound.
use Rattle.std.proofs.Common.{ℕ, ℤ, pos, negsuc, ◌*◌, ◌*ℤ◌, ◌≤◌, arith}
use Rattle.std.proofs.lemmas.Int.{ints, unsigned_abs-mul}
use Rattle.std.specs.Int.RustNames.{unsigned_abs}
use Rattle.mintc_graph_walks.specs.Bounds.{IsWithin}

pub abs_within : (b : ℕ) (z : ℤ) → IsWithin b z → unsigned_abs z ≤ b
abs_within b (pos n) h = let x = h.1 in omega (arith, ints)
abs_within b (negsuc n) h = let x = h.0 in omega (arith, ints)

within_abs : (b : ℕ) (z : ℤ) → unsigned_abs z ≤ b → IsWithin b z
within_abs b (pos n) h = (omega (arith, ints), omega (arith, ints))
within_abs b (negsuc n) h = (omega (arith, ints), omega (arith, ints))

times_le : (a b m n : ℕ) → a ≤ m → b ≤ n → a * b ≤ m * n
times_le a b m n h k = grind arith

pub IsWithin-product : (m n : ℕ) (x y : ℤ) → IsWithin m x → IsWithin n y → IsWithin (m * n) (x *ℤ y)
IsWithin-product m n x y h k = within_abs (m * n) (x *ℤ y) (rw (unsigned_abs-mul x y) (times_le (unsigned_abs x) (unsigned_abs y) m n (abs_within m x h) (abs_within n y k)))
