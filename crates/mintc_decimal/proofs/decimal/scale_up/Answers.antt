use Rattle.std.proofs.Common.{◌<◌, ◌≤◌, ℕ, ◌*◌, ◌^◌, arith, lit<}
use Rattle.std.proofs.Math.Nat.{one-le-pow, mul-le-mul_right, mul-le-mul_left}
use Rattle.mintc_decimal.proofs.DigitsLaws.{ten_to-le}
use Rattle.mintc_decimal.proofs.decimal.scale_up.Goals.{then-power-gt9-via-then-power-gt9, then-power-gt9-via-else-power-gt9+then-product-gt1000000000}
use Rattle.mintc_decimal.proofs.decimal.scale_up.Goals as goal

wide : (p k : ℕ) → 0 < p → 10 ≤ k → 1000000000 < p * 10 ^ k
wide p k some far =
    let a = ten_to-le 10 k far in
    let b = mul-le-mul_right (10 ^ k) some in
    omega (arith, a, b)

large : (p k : ℕ) → 1000000000 < p → 1000000000 < p * 10 ^ k
large p k h =
    let a = one-le-pow k 10 (lit< tt) in
    let b = mul-le-mul_left p a in
    omega (arith, b)

pub returns-then-power-gt9 : goal.returns-then-power-gt9
returns-then-power-gt9 c = elim c.then-power-gt9.branch [ then-power-gt9-via-then-power-gt9 w ↦ wide _ _ (omega arith) (omega (arith, w.if-power-gt9)) | then-power-gt9-via-else-power-gt9+then-product-gt1000000000 w ↦ large _ _ (omega (arith, w.if-product-gt1000000000)) ]
