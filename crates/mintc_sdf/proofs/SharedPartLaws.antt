-- The parts of a word, between colons.
use Rattle.std.proofs.Common.{◌≡◌, ℕ, suc, ◌+◌, ◌<◌, Bool, true, false, ◌==◌, not, if◌then◌else◌, List, [], ◌∷◌, length, take, drop, refl, sym, ap, ◌∙◌, arith}
use Rattle.mintc_sdf_tokens.specs.Words.{before_first}
use Rattle.mintc_sdf.specs.Forms.{parts_of}
use Rattle.mintc_sdf.specs.Values.{colon_size}

-- a part before a colon, and the last one
pub cut-part : (bs : List ℕ) → colon_size bs < length bs → parts_of bs ≡ take (colon_size bs) bs ∷ parts_of (drop (suc (colon_size bs)) bs)
cut-part [] h = absurd (omega arith)
cut-part (b ∷ bs) h = by (b == 58) (cut-part bs) h
  where
    by : (v : Bool) → (colon_size bs < length bs → parts_of bs ≡ take (colon_size bs) bs ∷ parts_of (drop (suc (colon_size bs)) bs)) → (if not v then 1 + colon_size bs else 0) < suc (length bs) →
        (if v then [] ∷ parts_of bs else before_first b (parts_of bs))
        ≡ take (if not v then 1 + colon_size bs else 0) (b ∷ bs) ∷ parts_of (drop (suc (if not v then 1 + colon_size bs else 0)) (b ∷ bs))
    by true go h = refl
    by false go h = let next : suc (colon_size bs) ≡ 1 + colon_size bs = omega arith in ap (before_first b) (go (omega (arith, h))) ∙ ap (λ k. take k (b ∷ bs) ∷ parts_of (drop k bs)) next

pub last-part : (bs : List ℕ) → colon_size bs ≡ length bs → parts_of bs ≡ bs ∷ []
last-part [] h = refl
last-part (b ∷ bs) h = let go = last-part bs in grind (arith, go, h)

pub one-part : (bs : List ℕ) (n : ℕ) → n ≡ colon_size bs → n ≡ length bs → parts_of bs ≡ bs ∷ []
one-part bs n e h = last-part bs (sym e ∙ h)

pub next-part : (bs rest : List ℕ) (n : ℕ) → n ≡ colon_size bs → n < length bs → rest ≡ drop (n + 1) bs → parts_of bs ≡ take n bs ∷ parts_of rest
next-part bs rest n e h left =
    let place : suc (colon_size bs) ≡ n + 1 = omega (arith, e) in
    cut-part bs (omega (arith, e, h)) ∙ ap (λ k. take k bs ∷ parts_of (drop (suc (colon_size bs)) bs)) (sym e) ∙ ap (λ k. take n bs ∷ parts_of (drop k bs)) place ∙ ap (λ l. take n bs ∷ parts_of l) (sym left)

-- each word has a part
pub some-parts : (bs : List ℕ) → (p : List ℕ) × (ps : List (List ℕ)) × (parts_of bs ≡ p ∷ ps)
some-parts [] = ([], [], refl)
some-parts (b ∷ bs) = by (b == 58) (some-parts bs)
  where
    by : (v : Bool) → ((p : List ℕ) × (ps : List (List ℕ)) × (parts_of bs ≡ p ∷ ps)) →
        (p : List ℕ) × (ps : List (List ℕ)) × ((if v then [] ∷ parts_of bs else before_first b (parts_of bs)) ≡ p ∷ ps)
    by true s = ([], parts_of bs, refl)
    by false s = (b ∷ s.0, s.1, ap (before_first b) s.2)
