-- The value of digits, one by one.
use Rattle.std.proofs.Common.{◌≡◌, ℕ, ◌+◌, ◌-◌, ◌*◌, ◌<◌, ◌≤◌, List, [], ◌∷◌, length, get_or, drop, sym, ap, ◌∙◌, arith, add-one, drop-cons}
use Rattle.mintc_verilog_expressions.specs.Lexemes.{value_from}

-- digits behind a value only raise it
pub value-above : (n : ℕ) (bs : List ℕ) → n ≤ value_from n bs
value-above n [] = omega arith
value-above n (b ∷ bs) = omega (arith, value-above (10 * n + (b - 48)) bs)

pub value-turn : (n : ℕ) (bs : List ℕ) (at : ℕ) → at < length bs → value_from n (drop at bs) ≡ value_from (10 * n + (get_or bs at 0 - 48)) (drop (at + 1) bs)
value-turn n bs at h = ap (value_from n) (drop-cons bs at 0 h ∙ ap (λ k. get_or bs at 0 ∷ drop k bs) (sym (add-one at)))
