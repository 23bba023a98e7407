-- The tokens from one piece to the next, where each piece has at least one byte and lies within the text.
use Rattle.std.proofs.Common.{◌≡◌, ℕ, zero, suc, ◌+◌, ◌-◌, ◌<◌, ◌≤◌, true, List, [], ◌∷◌, ◌++◌, length, drop, refl, sym, ap, ◌∙◌, arith, length-append, length-drop, drop-drop, Option, Some, None}
use Rattle.mintc_text_scan.specs.Pieces.{Piece, front_token, tokens_from, passed_by, is_token, is_settled}

abbrev pub Fits : {T : Type 0} → List ℕ → Piece T → Type 0
Fits bs p = (0 < p.size) × (p.size ≤ length bs)

abbrev pub EachFits : {T : Type 0} → (List ℕ → Piece T) → Type 0
EachFits front = (bs : List ℕ) → 0 < length bs → Fits bs (front bs)

-- the bytes inside a piece are passed
inside : {T : Type 0} (front : List ℕ → Piece T) (k : ℕ) (bs : List ℕ) → tokens_from front k bs ≡ tokens_from front 0 (drop k bs)
unfolding tokens_from
inside front zero bs = refl
inside front (suc k) [] = refl
inside front (suc k) (b ∷ bs) = inside front k bs

-- from one piece to the next
pub turn : {T : Type 0} (front : List ℕ → Piece T) → EachFits front → (bs : List ℕ) → 0 < length bs →
    tokens_from front 0 bs ≡ front_token (front bs).token ++ tokens_from front 0 (drop (front bs).size bs)
unfolding tokens_from
turn front fit [] h = absurd (omega arith)
turn front fit (b ∷ bs) h =
    let n = (front (b ∷ bs)).size in
    let fits = fit (b ∷ bs) h in
    let size : suc (n - 1) ≡ n = omega arith in
    ap (λ l. front_token (front (b ∷ bs)).token ++ l) (inside front (n - 1) bs ∙ ap (λ k. tokens_from front 0 (drop k (b ∷ bs))) size)

front-few : {T : Type 0} (t : Option T) → length (front_token t) ≤ 1
front-few None = omega arith
front-few (Some t) = omega arith

-- no more tokens than bytes
pub few : {T : Type 0} (front : List ℕ → Piece T) (k : ℕ) (bs : List ℕ) → length (tokens_from front k bs) ≤ length bs
unfolding tokens_from
few front k [] = omega arith
few front (suc k) (b ∷ bs) = omega (arith, few front k bs)
few front zero (b ∷ bs) =
    let t = (front (b ∷ bs)).token in
    let more = tokens_from front ((front (b ∷ bs)).size - 1) bs in
    omega (arith, length-append (front_token t) more, front-few t, few front ((front (b ∷ bs)).size - 1) bs)

-- a piece of which nothing is passed over is a token
settled-by : {T : Type 0} (t : Option T) (size : ℕ) → 0 < size → passed_by t size ≡ 0 → is_token t ≡ true
settled-by None size h e = absurd (omega arith)
settled-by (Some t) size h e = refl

settled-here : {T : Type 0} (front : List ℕ → Piece T) → EachFits front → (bs : List ℕ) → 0 < length bs →
    passed_by (front bs).token (front bs).size ≡ 0 → is_settled front bs ≡ true
settled-here front fit [] h e = refl
settled-here front fit (b ∷ bs) h e = settled-by (front (b ∷ bs)).token (front (b ∷ bs)).size (fit (b ∷ bs) h).0 e

pub settled-at : {T : Type 0} (front : List ℕ → Piece T) → EachFits front → (text : List ℕ) (at n : ℕ) → at < length text →
    n ≡ passed_by (front (drop at text)).token (front (drop at text)).size → n ≡ 0 → is_settled front (drop at text) ≡ true
settled-at front fit text at n h e z = settled-here front fit (drop at text) (omega (arith, length-drop at text)) (sym e ∙ z)

-- what is passed over has no token
passes : {T : Type 0} (t : Option T) (n size : ℕ) → n ≡ passed_by t size → 0 < n → (t ≡ None) × (n ≡ size)
passes None n size e h = (refl, e)
passes (Some t) n size e h = absurd (omega arith)

pub pass : {T : Type 0} (front : List ℕ → Piece T) → EachFits front → (text : List ℕ) (at n : ℕ) → at < length text →
    n ≡ passed_by (front (drop at text)).token (front (drop at text)).size → 0 < n →
    (tokens_from front 0 (drop (at + n) text) ≡ tokens_from front 0 (drop at text)) × (at + n ≤ length text)
pass front fit text at n h e some =
    let bs = drop at text in
    let size = length-drop at text in
    let fits = fit bs (omega arith) in
    let p = passes (front bs).token n (front bs).size e some in (
      ap (tokens_from front 0) (sym (drop-drop n at text)) ∙ ap (λ k. tokens_from front 0 (drop k bs)) p.1
          ∙ sym (turn front fit bs (omega arith) ∙ ap (λ t. front_token t ++ tokens_from front 0 (drop (front bs).size bs)) p.0),
      omega (arith, p.1, fits.1),
    )
