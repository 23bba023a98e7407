-- What the code reads of its numbers.
use Rattle.std.proofs.Common.{◌≡◌, ◌==◌, ◌↔◌, IsTrue, ℤ, pos, negsuc, ◌*ℤ◌, ◌≤ℤ◌, SFits, arith, ap, ◌∙◌, sym, to_z, of_z, w64}
use Rattle.std.proofs.lemmas.Int.{ints}
use Rattle.std.proofs.Math.IntN.{*ℤ_comm}
use Rattle.mintc_text.specs.declared.limits.TheConstants.{MOST_MEMBERS}
use Rattle.mintc_timing.specs.Limits.{IsTime, IsDenominator, IsNumerator}
use Rattle.mintc_timing.proofs.SharedFitting.{read_time, same_bits}
use Rattle.mintc_timing.proofs.SharedProducts.{times-mono_positive}
use Rattle.mintc_checker.proofs.Deciding.{same_test}

-- a product as the code computes it
pub scaled_is : (product span den : ℤ) → IsTime span → IsTime den → product ≡ to_z w64 (of_z w64 span) *ℤ to_z w64 (of_z w64 den) → product ≡ span *ℤ den
scaled_is product span den h g e = e ∙ ap (λ v. v *ℤ to_z w64 (of_z w64 den)) (read_time span h) ∙ ap (λ v. span *ℤ v) (read_time den g)

-- the code's test of two numbers in range
pub equal_bits : (a b x y : ℤ) → a ≡ x → b ≡ y → SFits w64 x → SFits w64 y → IsTrue (of_z w64 a == of_z w64 b) ↔ (x ≡ y)
equal_bits a b x y e f p q =
    let law = same_test (of_z w64 a) (of_z w64 b) in
    ((λ h. same_bits x y p q (ap (of_z w64) (sym e) ∙ law.0 h ∙ ap (of_z w64) f)), (λ g. law.1 (ap (of_z w64) (e ∙ g ∙ sym f))))

-- the products that the test of a ring compares
pub delay_fits : (delay den : ℤ) → (negsuc 65535999999999 ≤ℤ delay) × (delay ≤ℤ pos 65536000000000) → IsDenominator den → SFits w64 (delay *ℤ den)
delay_fits delay den h g =
    let low : (negsuc 65535999999999 *ℤ den) ≤ℤ (delay *ℤ den) = times-mono_positive (negsuc 65535999999999) delay den h.0 g.0 in
    let high : (delay *ℤ den) ≤ℤ (pos 65536000000000 *ℤ den) = times-mono_positive delay (pos 65536000000000) den h.1 g.0 in
    omega (arith, ints)

pub turns_fit : (cycles cycle : ℤ) → (pos 1 ≤ℤ cycles) × (cycles ≤ℤ pos MOST_MEMBERS) → IsNumerator cycle → SFits w64 (cycles *ℤ cycle)
turns_fit cycles cycle h g =
    let low : (pos 0 *ℤ cycles) ≤ℤ (cycle *ℤ cycles) = times-mono_positive (pos 0) cycle cycles g.0 h.0 in
    let high : (cycle *ℤ cycles) ≤ℤ (pos 100000000000000 *ℤ cycles) = times-mono_positive cycle (pos 100000000000000) cycles g.1 h.0 in
    rw (*ℤ_comm cycles cycle) (omega (arith, ints))
