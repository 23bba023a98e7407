-- Paths that are listed one by one.
use Rattle.std.proofs.Common.{◌≡◌, ◌<◌, ◌≤◌, ◌+◌, ◌∙◌, ℕ, List, [], ◌∷◌, ◌++◌, length, flat_map, ap, sym, refl, arith, append_assoc, append-nil}
use Rattle.std.specs.List.{range_with_len}
use Rattle.std.proofs.lemmas.Grind.{flat_map-append}
use Rattle.mintcx_lint_data.proofs.RangeLaws.{range_more}

-- what one more number gives
pub numbers_more : {X : Type 0} (f : ℕ → List X) (k : ℕ) → flat_map f (range_with_len 0 (k + 1)) ≡ flat_map f (range_with_len 0 k) ++ f k
numbers_more f k =
    ap (flat_map f) (range_more k) ∙ flat_map-append f (range_with_len 0 k) (k ∷ []) ∙ ap (λ l. flat_map f (range_with_len 0 k) ++ l) (append-nil (f k))

-- the same behind what was there before
pub flat_pushed : {X : Type 0} (f : ℕ → List X) (old found more : List X) (k : ℕ) → found ≡ old ++ flat_map f (range_with_len 0 k) → more ≡ found ++ f k → more ≡ old ++ flat_map f (range_with_len 0 (k + 1))
flat_pushed f old found more k so next =
    next ∙ ap (λ l. l ++ f k) so ∙ append_assoc old (flat_map f (range_with_len 0 k)) (f k) ∙ ap (λ l. old ++ l) (sym (numbers_more f k))
