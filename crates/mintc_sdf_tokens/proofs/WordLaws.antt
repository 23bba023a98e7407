-- Words cut into pieces.
use Rattle.std.proofs.Common.{◌≡◌, ℕ, suc, ◌+◌, ◌<◌, Bool, false, not, ◌&&◌, ◌==◌, List, [], ◌∷◌, ◌++◌, map, length, take, drop, refl, sym, ap, ◌∙◌, arith, append_assoc}
use Rattle.std.specs.List.{list_any}
use Rattle.mintc_sdf_tokens.specs.Words.{pieces_from, unescaped, names_of}
use Rattle.mintc_sdf_tokens.specs.Pieces.{piece_size}

-- a piece before a divider, and the last one
cut-piece : (d : ℕ) (kept : Bool) (bs : List ℕ) → piece_size d kept bs < length bs →
    pieces_from d kept bs ≡ take (piece_size d kept bs) bs ∷ pieces_from d false (drop (suc (piece_size d kept bs)) bs)
cut-piece d kept [] h = absurd (omega arith)
cut-piece d kept (b ∷ bs) h = let go = cut-piece d (not kept && (b == 92)) bs in grind (arith, go, h)

last-piece : (d : ℕ) (kept : Bool) (bs : List ℕ) → piece_size d kept bs ≡ length bs → pieces_from d kept bs ≡ bs ∷ []
last-piece d kept [] h = refl
last-piece d kept (b ∷ bs) h = let go = last-piece d (not kept && (b == 92)) bs in grind (arith, go, h)

-- one turn of the loop over pieces
pub names-turn : (d : ℕ) (word rest after : List ℕ) (n : ℕ) (out new : List (List ℕ)) → n ≡ piece_size d false rest → n < length rest →
    names_of d word ≡ out ++ names_of d rest → new ≡ out ++ unescaped (take n rest) ∷ [] → after ≡ drop (n + 1) rest → names_of d word ≡ new ++ names_of d after
names-turn d word rest after n out new e h whole pushed left =
    let cut = ap (map unescaped) (cut-piece d false rest (omega (arith, e, h))) in
    let place : suc (piece_size d false rest) ≡ n + 1 = omega (arith, e) in
    let next : names_of d rest ≡ unescaped (take n rest) ∷ names_of d after = cc (cut, place, e, left) in
    whole ∙ ap (λ l. out ++ l) next ∙ sym (append_assoc out (unescaped (take n rest) ∷ []) (names_of d after)) ∙ ap (λ l. l ++ names_of d after) (sym pushed)

pub names-end : (d : ℕ) (word rest : List ℕ) (n : ℕ) (out new : List (List ℕ)) → n ≡ piece_size d false rest → n ≡ length rest →
    names_of d word ≡ out ++ names_of d rest → new ≡ out ++ unescaped (take n rest) ∷ [] → new ≡ names_of d word
names-end d word rest n out new e h whole pushed =
    pushed
    ∙ ap (λ l. out ++ unescaped l ∷ []) (ap (λ k. take k rest) h ∙ take-all rest)
    ∙ ap (λ ps. out ++ map unescaped ps) (sym (last-piece d false rest (sym e ∙ h)))
    ∙ sym whole
  where
    take-all : (bs : List ℕ) → take (length bs) bs ≡ bs
    take-all [] = refl
    take-all (b ∷ bs) = ap (λ l. b ∷ l) (take-all bs)

-- a word without backslashes stays as it is
pub unescaped-plain : (w : List ℕ) → list_any (λ b. b == 92) w ≡ false → unescaped w ≡ w
unescaped-plain [] h = refl
unescaped-plain (b ∷ bs) h = let go = unescaped-plain bs in grind (arith, go, h)
