-- Steps of decimals.
use Rattle.std.proofs.Common.{◌≡◌, ◌≢◌, ℕ, zero, suc, ◌+◌, ◌-◌, ◌/◌, ◌%◌, ◌<◌, ◌≤◌, ◌==◌, Bool, true, false, if◌then◌else◌, [], ◌∷◌, ◌++◌, refl, arith}
use Rattle.std.proofs.lemmas.Bool.Decides.{nat_tests}
use Rattle.mintcx_amounts.specs.Decimals.{trimmed, with_point}

-- a zero at the end is left out
zero_out : (p q : ℕ) (test : Bool) → (q % 10 == 0) ≡ test → q % 10 ≡ 0 →
    (if test then trimmed p (q / 10) else record { digits = q; places = suc p }) ≡ trimmed p (q / 10)
zero_out p q true e h = refl
zero_out p q false e h = absurd (grind (arith, nat_tests))

pub trimmed_zero : (p q : ℕ) → 0 < p → q % 10 ≡ 0 → trimmed p q ≡ trimmed (p - 1) (q / 10)
trimmed_zero zero q some h = absurd (omega arith)
trimmed_zero (suc p) q some h = let back : suc p - 1 ≡ p = omega arith in rw back (zero_out p q (q % 10 == 0) refl h)

-- another digit at the end stays
stays : (p q : ℕ) (test : Bool) → (q % 10 == 0) ≡ test → q % 10 ≢ 0 →
    (if test then trimmed p (q / 10) else record { digits = q; places = suc p }) ≡ record { digits = q; places = suc p }
stays p q true e h = absurd (h (grind (arith, nat_tests)))
stays p q false e h = refl

pub trimmed_whole : (p q : ℕ) → p ≤ 0 → trimmed p q ≡ record { digits = q; places = p }
trimmed_whole zero q h = refl
trimmed_whole (suc p) q h = absurd (omega arith)

pub trimmed_other : (p q : ℕ) → q % 10 ≢ 0 → trimmed p q ≡ record { digits = q; places = p }
trimmed_other zero q h = refl
trimmed_other (suc p) q h = stays p q (q % 10 == 0) refl h

pub ruleset turns = (trimmed_zero, trimmed_whole, trimmed_other)

-- one place more
pub with_point_more : (p q : ℕ) → 0 < p → with_point p q ≡ with_point (p - 1) (q / 10) ++ (48 + q % 10) ∷ []
with_point_more zero q some = absurd (omega arith)
with_point_more (suc p) q some = let back : suc p - 1 ≡ p = omega arith in rw back refl
