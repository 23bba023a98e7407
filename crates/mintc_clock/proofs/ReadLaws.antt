-- Items of a list that are read one by one, once each has passed a test.
use Rattle.std.proofs.Common.{◌≡◌, ℕ, ◌+◌, ◌<◌, ◌≤◌, Bool, true, false, cond, List, [], ◌∷◌, ◌++◌, length, get_or, map, drop, Some, sym, ap, ◌∙◌, append_assoc, append-nil}
use Rattle.std.proofs.lemmas.List.{drop_more, drop_all}
use Rattle.toml.specs.Data.{Members}
use Rattle.mintc_clock.specs.ClockOf.{first_failing}
use Rattle.mintc_clock.specs.Reads.{AreRead}

-- those before number n have passed, and are read
abbrev pub Passed : {X A : Type 0} → (X → Members) → (Members → Bool) → (Members → A) → List X → ℕ → List A → Type 0
Passed view test reading xs n values =
    (first_failing test 1 (map view xs) ≡ first_failing test (n + 1) (map view (drop n xs)))
    × (map reading (map view xs) ≡ values ++ map reading (map view (drop n xs)))

one-left : {X : Type 0} (xs : List X) (n : ℕ) (x : X) → n < length xs → x ≡ get_or xs n x → drop n xs ≡ x ∷ drop (n + 1) xs
one-left xs n x inside is = drop_more xs n x inside ∙ ap (λ q. q ∷ drop (n + 1) xs) (sym is)

-- the next item fails, or passes and is read
pub one-fails : {X A : Type 0} (view : X → Members) (test : Members → Bool) (reading : Members → A) (xs : List X) (n : ℕ) (x : X) (values : List A) → n < length xs → x ≡ get_or xs n x →
    Passed view test reading xs n values → false ≡ test (view x) → first_failing test 1 (map view xs) ≡ Some (n + 1)
one-fails view test reading xs n x values inside is passed fails =
    passed.0
    ∙ ap (λ ys. first_failing test (n + 1) (map view ys)) (one-left xs n x inside is)
    ∙ ap (λ b. cond b (first_failing test (n + 1 + 1) (map view (drop (n + 1) xs))) (Some (n + 1))) (sym fails)

pub one-passes : {X A : Type 0} (view : X → Members) (test : Members → Bool) (reading : Members → A) (xs : List X) (n : ℕ) (x : X) (values new : List A) → n < length xs → x ≡ get_or xs n x →
    Passed view test reading xs n values → true ≡ test (view x) → new ≡ values ++ reading (view x) ∷ [] → Passed view test reading xs (n + 1) new
one-passes view test reading xs n x values new inside is passed passes made = (
  passed.0
      ∙ ap (λ ys. first_failing test (n + 1) (map view ys)) (one-left xs n x inside is)
      ∙ ap (λ b. cond b (first_failing test (n + 1 + 1) (map view (drop (n + 1) xs))) (Some (n + 1))) (sym passes),
  passed.1
      ∙ ap (λ ys. values ++ map reading (map view ys)) (one-left xs n x inside is)
      ∙ sym (append_assoc values (reading (view x) ∷ []) (map reading (map view (drop (n + 1) xs))))
      ∙ ap (λ vs. vs ++ map reading (map view (drop (n + 1) xs))) (sym made),
)

-- all have passed
pub all-passed : {X A : Type 0} (view : X → Members) (test : Members → Bool) (reading : Members → A) (xs : List X) (n : ℕ) (values : List A) → length xs ≤ n →
    Passed view test reading xs n values → AreRead test reading (map view xs) values
all-passed view test reading xs n values all passed = (
  passed.0 ∙ ap (λ ys. first_failing test (n + 1) (map view ys)) (drop_all n xs all),
  sym (passed.1 ∙ ap (λ ys. values ++ map reading (map view ys)) (drop_all n xs all) ∙ append-nil values),
)
