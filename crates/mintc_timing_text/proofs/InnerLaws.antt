-- Digits at the end of a room of one letter.
use Rattle.std.proofs.Common.{◌≡◌, ℕ, ◌+◌, ◌-◌, ◌<◌, ◌≤◌, List, [], ◌∷◌, ◌++◌, length, get_or, take, drop, refl, sym, ap, ◌∙◌, arith}
use Rattle.std.proofs.lemmas.List.{append-nil, drop_more, get_or-take, take_rest}

-- the byte before the digits is still that of the room
kept : (room made : List ℕ) (at k : ℕ) → k < at → take at made ≡ take at room → get_or made k 0 ≡ get_or room k 0
kept room made at k low front =
    sym (get_or-take at made k 0 low) ∙ ap (λ (v : List ℕ). get_or v k 0) front ∙ get_or-take at room k 0 low

-- the bytes from one before the digits on are the letter and the digits
pub after_letter : (letter : ℕ) (room made ds : List ℕ) (at : ℕ) → length made ≡ 11 → 1 ≤ at → at ≤ 11 → get_or room (at - 1) 0 ≡ letter → drop 11 room ≡ [] →
    take at made ≡ take at room → drop at made ≡ ds ++ drop 11 room → take (11 - (at - 1)) (drop (at - 1) made) ≡ letter ∷ ds
after_letter letter room made ds at long some few same none front back =
    let next : (at - 1) + 1 ≡ at = omega arith in
    let within : at - 1 < length made = omega arith in
    let byte = kept room made at (at - 1) (omega arith) front ∙ same in
    let digits : drop at made ≡ ds = back ∙ ap (λ (v : List ℕ). ds ++ v) none ∙ append-nil ds in
    rw (sym long, take_rest made (at - 1), drop_more made (at - 1) 0 within, byte, next, digits) refl
