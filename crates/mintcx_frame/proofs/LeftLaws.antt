-- Rows that are left out.
use Rattle.std.proofs.Common.{◌≡◌, ◌≢◌, ℕ, zero, suc, List, [], ◌∷◌, ◌++◌, decimal, refl, append_assoc}
use Rattle.std.specs.Prelude.{codes}
use Rattle.mintcx_frame.specs.Rows.{left_text}

some_left : (n : ℕ) → n ≢ 0 → left_text n ≡ codes "  " ++ decimal n ++ codes " more (--limit all)" ++ 10 ∷ []
some_left zero h = absurd (h refl)
some_left (suc n) h = refl

-- what is written of some
pub left_written : (old a b new : List ℕ) (n : ℕ) → n ≢ 0 → a ≡ old ++ codes "  " → b ≡ a ++ decimal n →
    new ≡ b ++ (codes " more (--limit all)" ++ 10 ∷ []) → new ≡ old ++ left_text n
left_written old a b new n some e f g = rw (some_left n some, g, f, e) (simp append_assoc)
