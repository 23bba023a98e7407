-- The order of the values.
use Rattle.std.proofs.Common.{◌≡◌, ℤ, ◌≤ℤ◌, ◌<ℤ◌, ◌*ℤ◌, Bool, true, false, cond, ◌⊎◌, inl, inr, refl, sym, ap, ◌∙◌, arith}
use Rattle.std.specs.Ordering.{MatchOrdering, int_cmp}
use Rattle.std.specs.declared.cmp.Ordering.TheVariants.{Less, Equal, Greater}
use Rattle.std.specs.Prelude.{◌↔◌}
use Rattle.std.specs.Int.Signed.{lt_z}
use Rattle.std.proofs.lemmas.Int.{ints, by_lt_z}
use Rattle.mintc_fraction.specs.Ratio.{Ratio, IsFraction, IsAtMost, IsEqual}
use Rattle.mintc_fraction.proofs.SharedProducts.{swap-times, times-mono_positive, times-cancel_positive, times-cancel_equal}

by_tests : (x y : ℤ) (s t : Bool) → lt_z x y ≡ s → lt_z y x ≡ t → MatchOrdering (cond s Less (cond t Greater Equal)) (x <ℤ y) (x ≡ y) (y <ℤ x)
by_tests x y true t e f = omega (arith, ints)
by_tests x y false true e f = omega (arith, ints)
by_tests x y false false e f = omega (arith, ints)

-- what `cmp` answers
pub match_int_cmp : (x y : ℤ) → MatchOrdering (int_cmp x y) (x <ℤ y) (x ≡ y) (y <ℤ x)
match_int_cmp x y = by_tests x y _ _ refl refl

pub either_order : (x y : ℤ) → (x ≤ℤ y) ⊎ (y ≤ℤ x)
either_order x y = by_lt_z x y (λ h. inl (omega (arith, ints))) (λ h. inr h)

pub IsAtMost-trans : (a b c : Ratio) → IsFraction a → IsFraction b → IsFraction c → IsAtMost a b → IsAtMost b c → IsAtMost a c
IsAtMost-trans a b c pa pb pc h k =
    let first = times-mono_positive (a.num *ℤ b.den) (b.num *ℤ a.den) c.den h pc in
    let second = times-mono_positive (b.num *ℤ c.den) (c.num *ℤ b.den) a.den k pa in
    times-cancel_positive (a.num *ℤ c.den) (c.num *ℤ a.den) b.den pb
    (omega (arith, ints, first, second, swap-times a.num b.den c.den, swap-times b.num a.den c.den, swap-times c.num b.den a.den))

pub IsEqual-trans : (a b c : Ratio) → IsFraction b → IsEqual a b → IsEqual b c → IsEqual a c
IsEqual-trans a b c pb e f =
    times-cancel_equal (a.num *ℤ c.den) (c.num *ℤ a.den) b.den pb
    (sym (swap-times a.num b.den c.den) ∙ ap (λ v. v *ℤ c.den) e ∙ swap-times b.num a.den c.den ∙ ap (λ v. v *ℤ a.den) f ∙ swap-times c.num b.den a.den)

pub equal_is : (x y : ℤ) → (x ≡ y) ↔ ((x ≤ℤ y) × (y ≤ℤ x))
equal_is x y = (λ e. (omega (arith, ints), omega (arith, ints)), λ h. omega (arith, ints, h))

pub strict_is : (x y : ℤ) → (x <ℤ y) ↔ (y ≤ℤ x → ⊥)
strict_is x y = (λ h k. omega (arith, ints), λ n. by_lt_z x y (λ h. h) (λ k. absurd (n k)))
