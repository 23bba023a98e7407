-- A fraction in lowest terms has one numerator and one denominator.
use Rattle.std.proofs.Common.{◌≡◌, ℤ, pos, ◌≤ℤ◌, ◌*ℤ◌, ap}
use Rattle.mintc_fraction.proofs.SharedLowest.{IsLowest-unique}
use Rattle.mintc_fraction.specs.Ratio.{Ratio, over, IsLowest}

pub same_parts : (n d m e : ℤ) → pos 1 ≤ℤ d → pos 1 ≤ℤ e → IsLowest (over n d) → IsLowest (over m e) → n *ℤ e ≡ m *ℤ d → (n ≡ m) × (d ≡ e)
same_parts n d m e some other low high equal =
    let same : over n d ≡ over m e = IsLowest-unique (over n d) (over m e) some other low high equal in
    (ap (λ (a : Ratio). a.num) same, ap (λ (a : Ratio). a.den) same)
