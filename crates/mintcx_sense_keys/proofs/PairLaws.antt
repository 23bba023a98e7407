-- Whether an item is a pin and an output with a space between.
use Rattle.std.proofs.Common.{◌≡◌, ◌≢◌, ℕ, Bool, true, false, nat_eq, List, [], ◌∷◌, ◌++◌, length, take, drop, refl, sym, ap, ◌∙◌, bytes_eq}
use Rattle.std.specs.Cmp.Lexicographic.{pointwise}
use Rattle.std.proofs.lemmas.Bool.{false≢true}
use Rattle.std.proofs.lemmas.List.{append_cancel_left, take-append-drop}
use Rattle.std.proofs.lemmas.Slice.Eq.{bytes_eq-Decides}

same : (a b : List ℕ) → bytes_eq a b ≡ true → a ≡ b
same a b h = (bytes_eq-Decides a b).0 h

tested : (a b : List ℕ) → a ≡ b → bytes_eq a b ≡ true
tested a b h = (bytes_eq-Decides a b).1 h

-- a test that can't pass
fails : (test : Bool) → (test ≡ true → ⊥) → false ≡ test
fails true h = absurd (h refl)
fails false h = refl

-- tests that pass together
together : (a b : Bool) → (a ≡ true → b ≡ true) → (b ≡ true → a ≡ true) → a ≡ b
together true b f g = sym (f refl)
together false true f g = g refl
together false false f g = refl

-- an item that doesn't begin with the pin
pub no_pin : (item pin output : List ℕ) → ((rest : List ℕ) → item ≢ pin ++ rest) → false ≡ bytes_eq item (pin ++ 32 ∷ output)
no_pin item pin output none = fails (bytes_eq item (pin ++ 32 ∷ output)) (λ h. none (32 ∷ output) (same item (pin ++ 32 ∷ output) h))

-- one without a space behind it
pub no_space : (item pin output rest : List ℕ) → item ≡ pin ++ rest → ((name : List ℕ) → rest ≢ (32 ∷ []) ++ name) → false ≡ bytes_eq item (pin ++ 32 ∷ output)
no_space item pin output rest is none =
    fails (bytes_eq item (pin ++ 32 ∷ output)) (λ h. none output (append_cancel_left pin rest (32 ∷ output) (sym is ∙ same item (pin ++ 32 ∷ output) h)))

-- one with both
pub by_name : (item pin output rest name : List ℕ) → item ≡ pin ++ rest → rest ≡ (32 ∷ []) ++ name → bytes_eq name output ≡ bytes_eq item (pin ++ 32 ∷ output)
by_name item pin output rest name is behind =
    let whole : item ≡ pin ++ 32 ∷ name = is ∙ ap (λ (r : List ℕ). pin ++ r) behind in
    together (bytes_eq name output) (bytes_eq item (pin ++ 32 ∷ output))
    (λ h. tested item (pin ++ 32 ∷ output) (whole ∙ ap (λ (n : List ℕ). pin ++ 32 ∷ n) (same name output h)))
    (λ h. tested name output (append_cancel_left (32 ∷ []) name output (append_cancel_left pin (32 ∷ name) (32 ∷ output) (sym whole ∙ same item (pin ++ 32 ∷ output) h))))

-- what a text begins with
pub cut : (s p rest : List ℕ) → pointwise nat_eq (take (length p) s) p ≡ true → rest ≡ drop (length p) s → s ≡ p ++ rest
cut s p rest same left = sym (take-append-drop (length p) s) ∙ ap (λ (a : List ℕ). a ++ drop (length p) s) (begins (take (length p) s) p same) ∙ ap (λ (b : List ℕ). p ++ b) (sym left)
  where
    begins : (a b : List ℕ) → pointwise nat_eq a b ≡ true → a ≡ b
    begins a b h = (bytes_eq-Decides a b).0 h

-- what it doesn't begin with
pub uncut : (s p : List ℕ) → pointwise nat_eq (take (length p) s) p ≡ false → (rest : List ℕ) → s ≢ p ++ rest
uncut s p other rest is = true≢false (sym (tested (take (length p) s) p (ap (take (length p)) is ∙ take_append p rest)) ∙ other)
  where
    true≢false : true ≡ false → ⊥
    true≢false e = false≢true (sym e)

    take_append : (p rest : List ℕ) → take (length p) (p ++ rest) ≡ p
    take_append [] rest = refl
    take_append (x ∷ p) rest = ap (λ (q : List ℕ). x ∷ q) (take_append p rest)
