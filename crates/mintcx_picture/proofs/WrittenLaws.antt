-- What is written in parts: each part stands behind what is written before it.
use Rattle.std.proofs.Common.{◌≡◌, ℕ, ◌+◌, ◌<◌, List, [], ◌∷◌, ◌++◌, length, get_or, take, append_assoc, ap, ◌∙◌, sym}
use Rattle.std.specs.Prelude.{flat_map}
use Rattle.std.proofs.lemmas.List.{append-nil, take_more}
use Rattle.std.proofs.lemmas.List.Concat.{flat_map-append}

-- two parts
pub in_two : (old a new p q : List ℕ) → a ≡ old ++ p → new ≡ a ++ q → new ≡ old ++ (p ++ q)
in_two old a new p q e f = f ∙ ap (λ (v : List ℕ). v ++ q) e ∙ append_assoc old p q

-- three parts
pub in_three : (old a b new p q r : List ℕ) → a ≡ old ++ p → b ≡ a ++ q → new ≡ b ++ r → new ≡ old ++ (p ++ q ++ r)
in_three old a b new p q r e f g = in_two old b new (p ++ q) r (in_two old a b p q e f) g

-- four parts
pub in_four : (old a b c new p q r s : List ℕ) → a ≡ old ++ p → b ≡ a ++ q → c ≡ b ++ r → new ≡ c ++ s → new ≡ old ++ (p ++ q ++ r ++ s)
in_four old a b c new p q r s e f g h = in_two old c new (p ++ q ++ r) s (in_three old a b c p q r e f g) h

-- five parts
pub in_five : (old a b c d new p q r s t : List ℕ) → a ≡ old ++ p → b ≡ a ++ q → c ≡ b ++ r → d ≡ c ++ s → new ≡ d ++ t → new ≡ old ++ (p ++ q ++ r ++ s ++ t)
in_five old a b c d new p q r s t e f g h i = in_two old d new (p ++ q ++ r ++ s) t (in_four old a b c d p q r s e f g h) i

-- six parts
pub in_six : (old a b c d e new p q r s t u : List ℕ) → a ≡ old ++ p → b ≡ a ++ q → c ≡ b ++ r → d ≡ c ++ s → e ≡ d ++ t → new ≡ e ++ u →
    new ≡ old ++ (p ++ q ++ r ++ s ++ t ++ u)
in_six old a b c d e new p q r s t u f g h i j k = in_two old e new (p ++ q ++ r ++ s ++ t) u (in_five old a b c d e p q r s t f g h i j) k

-- the texts of the items so far, and that of one more
pub one_more : {A : Type 0} (f : A → List ℕ) (list : List A) (i : ℕ) (item : A) → i < length list → item ≡ get_or list i item →
    flat_map f (take (i + 1) list) ≡ flat_map f (take i list) ++ f item
one_more {A = A} f list i item below is =
    ap (flat_map f) (take_more list i item below) ∙ flat_map-append f (take i list) (get_or list i item ∷ [])
    ∙ ap (λ (v : A). flat_map f (take i list) ++ flat_map f (v ∷ [])) (sym is) ∙ ap (λ (v : List ℕ). flat_map f (take i list) ++ v) (append-nil (f item))

pub items_more : {A : Type 0} (f : A → List ℕ) (list : List A) (i : ℕ) (item : A) (first before new : List ℕ) → i < length list → item ≡ get_or list i item →
    before ≡ first ++ flat_map f (take i list) → new ≡ before ++ f item → new ≡ first ++ flat_map f (take (i + 1) list)
items_more f list i item first before new below is e g =
    in_two first before new (flat_map f (take i list)) (f item) e g ∙ ap (λ (v : List ℕ). first ++ v) (sym (one_more f list i item below is))
