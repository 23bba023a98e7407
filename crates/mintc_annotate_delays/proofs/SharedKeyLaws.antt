-- Keys of two pins of a leaf are one where the test says so.
use Rattle.std.proofs.Common.{◌≡◌, ℕ, Bool, true, ◌&&◌, nat_eq, refl, arith}
use Rattle.std.proofs.lemmas.Bool.Decides.{nat_tests}
use Rattle.mintc_annotate_delays.specs.Ranges.{same_key}

same_by : (a b c d e f : ℕ) (x y z : Bool) → nat_eq a d ≡ x → nat_eq b e ≡ y → nat_eq c f ≡ z → (x && y) && z ≡ true → (a ≡ d) × (b ≡ e) × (c ≡ f)
same_by a b c d e f true true true p q r h = (grind (arith, nat_tests), grind (arith, nat_tests), grind (arith, nat_tests))
same_by a b c d e f _ _ _ p q r h = absurd (cc)

abbrev key : ℕ → ℕ → ℕ → ℕ × ℕ × ℕ
key a b c = (a, b, c)

pub same_true : (x y : ℕ × ℕ × ℕ) → same_key x y ≡ true → x ≡ y
same_true x y h =
    let is = same_by x.0 x.1 x.2 y.0 y.1 y.2 (nat_eq x.0 y.0) (nat_eq x.1 y.1) (nat_eq x.2 y.2) refl refl refl h in
    let whole : key x.0 x.1 x.2 ≡ key y.0 y.1 y.2 = cc in
    whole
