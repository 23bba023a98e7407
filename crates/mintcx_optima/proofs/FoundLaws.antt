-- The first item that passes a test, one item more at a time.
use Rattle.std.proofs.Common.{◌≡◌, ℕ, ◌+◌, ◌<◌, Bool, true, false, List, ◌∷◌, [], length, get_or, drop, refl, ap, ◌∙◌, sym}
use Rattle.std.specs.Prelude.{find, Option, Some, None}
use Rattle.std.proofs.lemmas.List.{drop_all, drop_more}

behind : {A : Type 0} (p : A → Bool) (x : A) (xs : List A) → p x ≡ false → find p (x ∷ xs) ≡ find p xs
behind p x xs fails = rw fails refl

at_front : {A : Type 0} (p : A → Bool) (x : A) (xs : List A) → p x ≡ true → find p (x ∷ xs) ≡ Some x
at_front p x xs passes = rw passes refl

-- one that fails is passed over
pub passed : {A : Type 0} (p : A → Bool) (xs : List A) (i : ℕ) (x : A) → i < length xs → x ≡ get_or xs i x → p x ≡ false →
    find p (drop i xs) ≡ find p xs → find p (drop (i + 1) xs) ≡ find p xs
passed p xs i x below is fails left =
    sym (ap (find p) (drop_more xs i x below) ∙ behind p (get_or xs i x) (drop (i + 1) xs) (sym (ap p is) ∙ fails)) ∙ left

-- the first that passes is found
pub found : {A : Type 0} (p : A → Bool) (xs : List A) (i : ℕ) (x : A) → i < length xs → x ≡ get_or xs i x → p x ≡ true →
    find p (drop i xs) ≡ find p xs → find p xs ≡ Some x
found p xs i x below is passes left =
    sym left ∙ ap (find p) (drop_more xs i x below) ∙ at_front p (get_or xs i x) (drop (i + 1) xs) (sym (ap p is) ∙ passes)
    ∙ ap Some (sym is)
