-- Where a byte stands last, and the gates of one arc more.
use Rattle.std.proofs.Common.{◌≡◌, ℕ, suc, ◌+◌, ◌<◌, ◌==◌, Bool, true, false, List, [], ◌∷◌, ◌++◌, length, get_or, take, if◌then◌else◌, refl, ap, ◌∙◌, sym, arith}
use Rattle.std.specs.Prelude.{Option, Some, None, IfSome}
use Rattle.std.proofs.lemmas.List.{length-take-le, take_more}
use Rattle.std.proofs.lemmas.List.Elements.{filter_map-append}
use Rattle.mintc_timing.specs.Design.{Design}
use Rattle.mintcx_chain.specs.Gates.{gate_of, gates_of, one_on, place_of_last}

one_on_push : (found here : Bool) (n : ℕ) (before : Option ℕ) →
    one_on here (if found then Some n else before) ≡ (if found then Some (suc n) else one_on here before)
one_on_push true here n before = refl
one_on_push false here n before = refl

-- of one byte more at the end
pub place_more : (byte : ℕ) (name : List ℕ) (other : ℕ) →
    place_of_last byte (name ++ other ∷ []) ≡ (if other == byte then Some (length name) else place_of_last byte name)
place_more byte [] other = refl
place_more byte (x ∷ name) other =
    ap (one_on (x == byte)) (place_more byte name other) ∙ one_on_push (other == byte) (x == byte) (length name) (place_of_last byte name)

-- the gates of one arc more
pub gates_more : (design : Design) (path : List ℕ) (i n : ℕ) → i < length path → n ≡ get_or path i n →
    gates_of design (take (i + 1) path) ≡ gates_of design (take i path) ++ gates_of design (n ∷ [])
gates_more design path i n below is =
    ap (gates_of design) (take_more path i n below) ∙ filter_map-append (gate_of design) (take i path) (get_or path i n ∷ [])
    ∙ ap (λ (k : ℕ). gates_of design (take i path) ++ gates_of design (k ∷ [])) (sym is)

-- one byte more is one place more
pub inside_more : (here : Bool) (i : ℕ) (last : Option ℕ) → IfSome last (λ n. n < i) → IfSome (if here then Some i else last) (λ n. n < i + 1)
inside_more true i last h = omega arith
inside_more false i None h = tt
inside_more false i (Some n) h = omega arith

pub last_more : (byte : ℕ) (name : List ℕ) (i : ℕ) → i < length name →
    place_of_last byte (take (i + 1) name) ≡ (if get_or name i 0 == byte then Some i else place_of_last byte (take i name))
last_more byte name i below =
    ap (place_of_last byte) (take_more name i 0 below) ∙ place_more byte (take i name) (get_or name i 0)
    ∙ ap (λ (k : ℕ). if get_or name i 0 == byte then Some k else place_of_last byte (take i name)) (length-take-le i name (omega arith))
