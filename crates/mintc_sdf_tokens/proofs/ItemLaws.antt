-- The items that stand at the front of tokens.
use Rattle.std.proofs.Common.{◌≡◌, ℕ, zero, suc, ◌<◌, ◌≤◌, List, [], ◌∷◌, length, Option, Some, None, refl, sym, ap, ◌∙◌, arith}
use Rattle.mintc_sdf_tokens.specs.Tokens.{Token, opening, closing, word, string, bad}
use Rattle.mintc_sdf_tokens.specs.Items.{Items, Front, nothing, with_leaf, with_quoted, with_list, nest, fronts, front, items, after}
use Rattle.mintc_sdf_tokens.specs.declared.reader.TokenKind.TheVariants as mark
use Rattle.mintc_sdf_tokens.specs.Reading.{after_closing, passing, stepped}

-- what is left is no longer than the tokens
shorter-nest : (most : ℕ) (go : List Token → Front) (ts : List Token) (inner : Items) (af : List Token) →
    ((rest : List Token) → length (go rest).after ≤ length rest) → length af ≤ length ts → suc (length ts) ≤ most → length (nest go ts inner af).after ≤ most
shorter-nest most go ts inner (closing ∷ rest) h e g = let s = h rest in omega arith
shorter-nest most go ts inner _ h e g = g

shorter : (n : ℕ) (ts : List Token) → length (fronts n ts).after ≤ length ts
unfolding fronts
shorter zero ts = omega arith
shorter (suc n) (word w ∷ ts) = let s = shorter n ts in omega arith
shorter (suc n) (string w ∷ ts) = let s = shorter n ts in omega arith
shorter (suc n) (opening ∷ ts) =
    shorter-nest (suc (length ts)) (fronts n) ts (fronts n ts).items (fronts n ts).after (λ rest. shorter n rest) (shorter n ts) (omega arith)
shorter (suc n) _ = omega arith

pub after-shorter : (ts : List Token) → length (after ts) ≤ length ts
after-shorter ts = shorter (length ts) ts

same-nest : (go back : List Token → Front) (ts : List Token) (inner : Items) (af : List Token) → length af ≤ length ts →
    ((rest : List Token) → length rest ≤ length ts → go rest ≡ back rest) → nest go ts inner af ≡ nest back ts inner af
same-nest go back ts inner (closing ∷ rest) e h = ap (with_list inner) (h rest (omega (arith, e)))
same-nest go back ts inner _ e h = refl

-- as many turns as there are tokens are enough
enough : (n m : ℕ) (ts : List Token) → length ts ≤ n → length ts ≤ m → fronts n ts ≡ fronts m ts
unfolding fronts
enough zero zero ts h e = refl
enough zero (suc m) [] h e = refl
enough (suc n) zero [] h e = refl
enough (suc n) (suc m) (word w ∷ ts) h e = ap (with_leaf w) (enough n m ts (omega arith) (omega arith))
enough (suc n) (suc m) (string s ∷ ts) h e = ap (with_quoted s) (enough n m ts (omega arith) (omega arith))
enough (suc n) (suc m) (opening ∷ ts) h e =
    let small : length ts ≤ n = omega arith in
    let fits : length ts ≤ m = omega arith in
    ap (λ (f : Front). nest (fronts n) ts f.items f.after) (enough n m ts small fits)
    ∙ same-nest (fronts n) (fronts m) ts (fronts m ts).items (fronts m ts).after (shorter m ts)
    (λ rest less. enough n m rest (omega arith) (omega arith))
enough (suc n) (suc m) _ h e = refl
enough _ _ (t ∷ ts) h e = absurd (omega arith)

-- behind an opening parenthesis
pub front-opening : (ts : List Token) → front (opening ∷ ts) ≡ nest front ts (items ts) (after ts)
unfolding fronts
front-opening ts =
    same-nest (fronts (length ts)) front ts (items ts) (after ts) (after-shorter ts) (λ rest less. enough (length ts) (length rest) rest less (omega arith))

-- a list that is closed is an item, and one that isn't is none
pub closed-list : (ts rest : List Token) → after ts ≡ closing ∷ rest → front (opening ∷ ts) ≡ with_list (items ts) (front rest)
closed-list ts rest e = front-opening ts ∙ ap (nest front ts (items ts)) e

pub open-list : (ts : List Token) → after_closing (after ts) ≡ None → front (opening ∷ ts) ≡ nothing (opening ∷ ts)
open-list ts e = front-opening ts ∙ by (after ts) e
  where
    by : (af : List Token) → after_closing af ≡ None → nest front ts (items ts) af ≡ nothing (opening ∷ ts)
    by af f = grind (arith, f)

-- passing what is inside of lists
abbrev skip : ℕ → List Token → Option (List Token)
skip d (closing ∷ rest) = passing d (closing ∷ rest)
skip d _ = None

skips-list : (n d : ℕ) (ts af : List Token) → ((e : ℕ) (rest : List Token) → length rest ≤ n → passing e rest ≡ skip e (after rest)) → length ts ≤ n →
    after ts ≡ af → skip (suc d) af ≡ skip d (after (opening ∷ ts))
skips-list n d ts (closing ∷ rest) go h e =
    let less = after-shorter ts in
    let size : length (after ts) ≡ suc (length rest) = ap length e in
    go d rest (omega (arith, less, size)) ∙ ap (λ (f : Front). skip d f.after) (sym (closed-list ts rest e))
skips-list n d ts _ go h e = ap (λ (f : Front). skip d f.after) (sym (open-list ts (ap after_closing e)))

skips : (n d : ℕ) (ts : List Token) → length ts ≤ n → passing d ts ≡ skip d (after ts)
unfolding fronts
skips n d [] h = refl
skips n d (closing ∷ ts) h = refl
skips n d (bad ∷ ts) h = refl
skips (suc n) d (word w ∷ ts) h = skips n d ts (omega arith)
skips (suc n) d (string s ∷ ts) h = skips n d ts (omega arith)
skips (suc n) d (opening ∷ ts) h =
    skips n (suc d) ts (omega arith)
    ∙ skips-list n d ts (after ts) (λ e rest less. skips n e rest less) (omega arith) refl
skips zero d _ h = absurd (omega arith)

pub passed-list : (ts : List Token) → passing 0 ts ≡ after_closing (after ts)
passed-list ts = skips (length ts) 0 ts (omega arith) ∙ by (after ts)
  where
    by : (af : List Token) → skip 0 af ≡ after_closing af
    by af = grind arith

-- one step
pub step-open : (ts : List Token) → (stepped ts).0 ≡ mark.Open → 0 < length ts
step-open ts e = grind (arith, e)

pub step-close : (ts : List Token) → (stepped ts).0 ≡ mark.Close → passing 0 ts ≡ Some (stepped ts).1
step-close ts e = grind (arith, e)

pub step-end : (d : ℕ) (ts : List Token) → (stepped ts).0 ≡ mark.End → passing d ts ≡ None
step-end d ts e = grind (arith, e)

pub step-opening : (ts : List Token) → (stepped ts).0 ≡ mark.Open → ts ≡ opening ∷ (stepped ts).1
step-opening ts e = grind (arith, e)

pub step-closing : (ts : List Token) → (stepped ts).0 ≡ mark.Close → ts ≡ closing ∷ (stepped ts).1
step-closing ts e = grind (arith, e)
