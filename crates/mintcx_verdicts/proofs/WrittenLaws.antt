-- What is written in parts.
use Rattle.std.proofs.Common.{◌≡◌, List, [], ◌∷◌, ℕ, ◌++◌, append_assoc}

-- what is written in some steps
pub in_two : {a new : List ℕ} (old p q : List ℕ) → a ≡ old ++ p → new ≡ a ++ q → new ≡ old ++ (p ++ q)
in_two old p q e f = rw (f, e) (simp append_assoc)

pub in_three : {a b new : List ℕ} (old p q r : List ℕ) → a ≡ old ++ p → b ≡ a ++ q → new ≡ b ++ r → new ≡ old ++ (p ++ q ++ r)
in_three old p q r e f g = rw (g, f, e) (simp append_assoc)

pub in_four : {a b c new : List ℕ} (old p q r s : List ℕ) → a ≡ old ++ p → b ≡ a ++ q → c ≡ b ++ r → new ≡ c ++ s → new ≡ old ++ (p ++ q ++ r ++ s)
in_four old p q r s e f g h = rw (h, g, f, e) (simp append_assoc)

pub in_five : {a b c d new : List ℕ} (old p q r s t : List ℕ) → a ≡ old ++ p → b ≡ a ++ q → c ≡ b ++ r → d ≡ c ++ s → new ≡ d ++ t → new ≡ old ++ (p ++ q ++ r ++ s ++ t)
in_five old p q r s t e f g h i = rw (i, h, g, f, e) (simp append_assoc)

pub in_six : {a b c d x new : List ℕ} (old p q r s t u : List ℕ) → a ≡ old ++ p → b ≡ a ++ q → c ≡ b ++ r → d ≡ c ++ s → x ≡ d ++ t → new ≡ x ++ u →
    new ≡ old ++ (p ++ q ++ r ++ s ++ t ++ u)
in_six old p q r s t u e f g h i j = rw (j, i, h, g, f, e) (simp append_assoc)

pub in_seven : {a b c d x y new : List ℕ} (old p q r s t u v : List ℕ) → a ≡ old ++ p → b ≡ a ++ q → c ≡ b ++ r → d ≡ c ++ s → x ≡ d ++ t → y ≡ x ++ u → new ≡ y ++ v →
    new ≡ old ++ (p ++ q ++ r ++ s ++ t ++ u ++ v)
in_seven old p q r s t u v e f g h i j k = rw (k, j, i, h, g, f, e) (simp append_assoc)

-- a number and a word behind a blank
pub number_and_word : {a b new : List ℕ} (old number word : List ℕ) → a ≡ old ++ number → b ≡ a ++ 32 ∷ [] → new ≡ b ++ word → new ≡ old ++ (number ++ 32 ∷ word)
number_and_word old number word e f g = rw (g, f, e) (simp append_assoc)

-- a line, the end of which is written with the line feed
pub line_of_two : {a new : List ℕ} (old p said : List ℕ) → a ≡ old ++ p → new ≡ a ++ (said ++ 10 ∷ []) → new ≡ old ++ ((p ++ said) ++ 10 ∷ [])
line_of_two old p said e f = rw (f, e) (simp append_assoc)

pub line_of_three : {a b new : List ℕ} (old p q said : List ℕ) → a ≡ old ++ p → b ≡ a ++ q → new ≡ b ++ (said ++ 10 ∷ []) → new ≡ old ++ ((p ++ q ++ said) ++ 10 ∷ [])
line_of_three old p q said e f g = rw (g, f, e) (simp append_assoc)

-- what a chain takes, what it asks for, and a schedule's cycle time
pub tight_written : {a b c d x new : List ℕ} (old takes which asks has cycle : List ℕ) → a ≡ old ++ takes → b ≡ a ++ which → c ≡ b ++ asks → d ≡ c ++ has → x ≡ d ++ cycle →
    new ≡ x ++ 10 ∷ [] → new ≡ old ++ ((takes ++ (which ++ asks ++ has ++ cycle)) ++ 10 ∷ [])
tight_written old takes which asks has cycle e f g h i j = rw (j, i, h, g, f, e) (simp append_assoc)

-- what a chain takes, and what it doesn't forbid
pub stuck_written : {a b c new : List ℕ} (old takes which asks more : List ℕ) → a ≡ old ++ takes → b ≡ a ++ which → c ≡ b ++ asks → new ≡ c ++ (more ++ 10 ∷ []) →
    new ≡ old ++ ((takes ++ (which ++ asks ++ more)) ++ 10 ∷ [])
stuck_written old takes which asks more e f g h = rw (h, g, f, e) (simp append_assoc)
