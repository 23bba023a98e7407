-- Texts that are written one behind the other.
use Rattle.std.proofs.Common.{◌≡◌, ◌<◌, ◌∙◌, ◌+◌, ℕ, zero, suc, List, [], ◌∷◌, ◌++◌, length, take, get_or, ap, sym, arith, append_assoc, append-nil}
use Rattle.std.proofs.lemmas.List.{take_more}
use Rattle.std.specs.List.{AllZip, concat, range_with_len}

-- a relation of two lists with one item more at each end
AllZip-more : {X Y : Type 0} (R : X → Y → Type 0) (xs : List X) (ys : List Y) (x : X) (y : Y) → AllZip R xs ys → R x y → AllZip R (xs ++ x ∷ []) (ys ++ y ∷ [])
AllZip-more R [] [] x y h r = (r, tt)
AllZip-more R [] (b ∷ ys) x y h r = absurd h
AllZip-more R (a ∷ xs) [] x y h r = absurd h
AllZip-more R (a ∷ xs) (b ∷ ys) x y h r = (h.0, AllZip-more R xs ys x y h.1 r)

-- one text more
concat_more : (texts : List (List ℕ)) (text : List ℕ) → concat (texts ++ text ∷ []) ≡ concat texts ++ text
concat_more [] text = append-nil text
concat_more (t ∷ texts) text = ap (λ v. t ++ v) (concat_more texts text) ∙ sym (append_assoc t (concat texts) text)

-- a number more of a range
range_from : (a k : ℕ) → range_with_len a (suc k) ≡ range_with_len a k ++ (a + k) ∷ []
range_from a zero = ap (λ n. n ∷ []) (omega arith)
range_from a (suc k) = ap (λ xs. a ∷ xs) (range_from (a + 1) k ∙ ap (λ n. range_with_len (a + 1) k ++ n ∷ []) (omega arith))

-- texts of the numbers from one on, so many
abbrev pub AreTexts : (ℕ → List ℕ → Type 0) → ℕ → ℕ → List ℕ → Type 0
AreTexts R first count written = (texts : List (List ℕ)) × AllZip R (range_with_len first count) texts × (written ≡ concat texts)

pub no_texts : (R : ℕ → List ℕ → Type 0) (first : ℕ) (written : List ℕ) → written ≡ [] → AreTexts R first 0 written
no_texts R first written none = ([], tt, none)

pub text_more : (R : ℕ → List ℕ → Type 0) (first k number : ℕ) (written text now : List ℕ) → AreTexts R first k written → number ≡ first + k → R number text → now ≡ written ++ text → AreTexts R first (k + 1) now
text_more R first k number written text now (texts, are, is) same said next =
    let next_one : k + 1 ≡ suc k = omega arith in
    let one : range_with_len first (k + 1) ≡ range_with_len first k ++ number ∷ [] =
    ap (λ n. range_with_len first n) next_one ∙ range_from first k ∙ ap (λ n. range_with_len first k ++ n ∷ []) (sym same) in
    (texts ++ text ∷ [], rw one (AllZip-more R (range_with_len first k) texts number text are said), next ∙ ap (λ v. v ++ text) is ∙ sym (concat_more texts text))

-- the text of one item more of a list
pub item_more : {X : Type 0} (R : X → List ℕ → Type 0) (xs : List X) (i : ℕ) (d : X) (written text now : List ℕ) → i < length xs → (texts : List (List ℕ)) × AllZip R (take i xs) texts × (written ≡ concat texts) →
    R (get_or xs i d) text → now ≡ written ++ text → (texts : List (List ℕ)) × AllZip R (take (i + 1) xs) texts × (now ≡ concat texts)
item_more R xs i d written text now below (texts, are, is) said next =
    (texts ++ text ∷ [], rw (take_more xs i d below) (AllZip-more R (take i xs) texts (get_or xs i d) text are said), next ∙ ap (λ v. v ++ text) is ∙ sym (concat_more texts text))
