-- The words of values: their parts, and what these become.
use Rattle.std.proofs.Common.{◌≡◌, ℕ, ◌+◌, ◌<◌, Bool, true, false, not, ◌&&◌, ◌==◌, if◌then◌else◌, List, [], ◌∷◌, ◌++◌, map, length, take, drop, codes, refl, sym, ap, ◌∙◌, arith, append_assoc, append-nil}
use Rattle.std.proofs.lemmas.List.{take_all}
use Rattle.mintc_decimal.specs.Decimals.{number_of}
use Rattle.mintc_sdf_tokens.specs.Words.{before_first}
use Rattle.mintc_sdf.specs.Forms.{parts_of}
use Rattle.mintc_sdf.specs.Values.{colon_size}
use Rattle.mintc_sdf.proofs.SharedPartLaws.{one-part, next-part, some-parts}
use Rattle.mintcx_clamp.specs.Words.{is_below, clamped_part, with_colons, between_colons, clamped_word}

-- no byte is a colon
abbrev pub is_free : List ℕ → Bool
is_free [] = true
is_free (b ∷ bs) = not (b == 58) && is_free bs

abbrev pub are_free : List (List ℕ) → Bool
are_free [] = true
are_free (p ∷ ps) = is_free p && are_free ps

-- what is written of a word, part by part
pub word-end : (n : ℕ) (w : List ℕ) → n ≡ colon_size w → n ≡ length w → clamped_word w ≡ clamped_part (take n w)
word-end n w e h =
    ap (λ ps. between_colons (map clamped_part ps)) (one-part w n e h) ∙ append-nil (clamped_part w) ∙ ap clamped_part (sym (take_all n w (omega (arith, h))))

pub word-next : (n : ℕ) (w : List ℕ) → n ≡ colon_size w → n < length w → clamped_word w ≡ clamped_part (take n w) ++ 58 ∷ clamped_word (drop (n + 1) w)
word-next n w e h =
    let next = some-parts (drop (n + 1) w) in
    ap (λ ps. between_colons (map clamped_part ps)) (next-part w (drop (n + 1) w) n e h refl)
    ∙ ap (λ ps. clamped_part (take n w) ++ with_colons (map clamped_part ps)) next.2
    ∙ ap (λ ps. clamped_part (take n w) ++ 58 ∷ between_colons (map clamped_part ps)) (sym next.2)

pub word-step : (n : ℕ) (w rest out part now : List ℕ) → n ≡ colon_size w → n < length w → rest ≡ drop (n + 1) w → part ≡ out ++ clamped_part (take n w) → now ≡ part ++ 58 ∷ [] →
    now ++ clamped_word rest ≡ out ++ clamped_word w
word-step n w rest out part now e h left one colon =
    ap (λ l. l ++ clamped_word rest) (colon ∙ ap (λ l. l ++ 58 ∷ []) one)
    ∙ append_assoc (out ++ clamped_part (take n w)) (58 ∷ []) (clamped_word rest)
    ∙ append_assoc out (clamped_part (take n w)) (58 ∷ clamped_word rest)
    ∙ ap (λ l. out ++ (clamped_part (take n w) ++ 58 ∷ clamped_word l)) left
    ∙ ap (λ l. out ++ l) (sym (word-next n w e h))

-- the parts of a word have no colon, and what each becomes has none
parts-free : (bs : List ℕ) → are_free (parts_of bs) ≡ true
parts-free [] = refl
parts-free (b ∷ bs) = by (b == 58) refl (parts-free bs)
  where
    more : (ps : List (List ℕ)) → (b == 58) ≡ false → are_free ps ≡ true → are_free (before_first b ps) ≡ true
    more [] e h = grind (arith, e)
    more (p ∷ ps) e h = grind (arith, e, h)

    by : (v : Bool) → (b == 58) ≡ v → are_free (parts_of bs) ≡ true → are_free (if v then [] ∷ parts_of bs else before_first b (parts_of bs)) ≡ true
    by true e h = h
    by false e h = more (parts_of bs) e h

part-free : (p : List ℕ) → is_free p ≡ true → is_free (clamped_part p) ≡ true
part-free p h = by (is_below (number_of p))
  where
    by : (v : Bool) → is_free (if v then codes "0" else p) ≡ true
    by true = refl
    by false = h

all-free : (ps : List (List ℕ)) → are_free ps ≡ true → are_free (map clamped_part ps) ≡ true
all-free [] h = refl
all-free (p ∷ ps) h =
    let first : is_free p ≡ true = grind (arith, h) in
    let others : are_free ps ≡ true = grind (arith, h) in
    let a = part-free p first in
    let b = all-free ps others in
    rw (a, b) refl

-- parts that are written with colons are read back
lone-part : (p : List ℕ) → is_free p ≡ true → parts_of p ≡ p ∷ []
lone-part [] h = refl
lone-part (b ∷ bs) h = let go = lone-part bs in grind (arith, go, h)

part-before : (p x : List ℕ) → is_free p ≡ true → parts_of (p ++ 58 ∷ x) ≡ p ∷ parts_of x
part-before [] x h = refl
part-before (b ∷ bs) x h = let go = part-before bs x in grind (arith, go, h)

parts-back : (p : List ℕ) (ps : List (List ℕ)) → is_free p ≡ true → are_free ps ≡ true → parts_of (p ++ with_colons ps) ≡ p ∷ ps
parts-back p [] h g = ap parts_of (append-nil p) ∙ lone-part p h
parts-back p (q ∷ ps) h g =
    let first : is_free q ≡ true = grind (arith, g) in
    let others : are_free ps ≡ true = grind (arith, g) in
    part-before p (q ++ with_colons ps) h ∙ ap (λ qs. p ∷ qs) (parts-back q ps first others)

clamped-by : (p : List ℕ) (ps : List (List ℕ)) → are_free (map clamped_part (p ∷ ps)) ≡ true → parts_of (between_colons (map clamped_part (p ∷ ps))) ≡ map clamped_part (p ∷ ps)
clamped-by p ps h =
    let first : is_free (clamped_part p) ≡ true = grind (arith, h) in
    let others : are_free (map clamped_part ps) ≡ true = grind (arith, h) in
    parts-back (clamped_part p) (map clamped_part ps) first others

pub clamped-parts : (w : List ℕ) → parts_of (clamped_word w) ≡ map clamped_part (parts_of w)
clamped-parts w =
    let some = some-parts w in
    let free = all-free (parts_of w) (parts-free w) in
    ap (λ ps. parts_of (between_colons (map clamped_part ps))) some.2
    ∙ clamped-by some.0 some.1 (sym (ap (λ ps. are_free (map clamped_part ps)) some.2) ∙ free)
    ∙ ap (map clamped_part) (sym some.2)
