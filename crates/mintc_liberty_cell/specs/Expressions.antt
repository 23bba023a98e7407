-- Expressions over one pin: plain or inverted.
use Rattle.std.specs.Prelude.{ℕ, zero, suc, ◌-◌, Bool, true, false, ◌&&◌, ◌==◌, if◌then◌else◌, List, [], ◌∷◌, length}
use Rattle.std.specs.Prelude.{take, drop, slice_index, Option, Some, None, option_map, bytes_eq}
use Rattle.std.specs.List.{list_any}
use Rattle.mintc_text.specs.Signs.{apostrophe, close_parenthesis, exclamation_mark, open_parenthesis}
use Rattle.mintc_text_scan.specs.Bytes.{is_white}

-- without white space
abbrev pub stripped : List ℕ → List ℕ
stripped [] = []
stripped (b ∷ bs) = if is_white b then stripped bs else b ∷ stripped bs

-- The last of these bytes is the parenthesis that closes the one before them; so many more are open inside it.
abbrev pub closes_last : ℕ → List ℕ → Bool
closes_last inside [] = false
closes_last inside (b ∷ bs) =
    if b == open_parenthesis then closes_last (suc inside) bs
    else (if b == close_parenthesis then (if inside == 0 then length bs == 0 else closes_last (inside - 1) bs)
    else closes_last inside bs)

-- the outer parentheses of some bytes are one pair
abbrev pub is_enclosed : List ℕ → Bool
is_enclosed [] = false
is_enclosed (b ∷ bs) = (b == open_parenthesis) && closes_last 0 bs

-- all bytes but the last
abbrev pub without_last : List ℕ → List ℕ
without_last bs = take (length bs - 1) bs

-- without outer parentheses; no more pairs than bytes
abbrev pub peeled_within : ℕ → List ℕ → List ℕ
peeled_within zero bs = bs
peeled_within (suc n) bs = if is_enclosed bs then peeled_within n (without_last (drop 1 bs)) else bs

-- without outer parentheses
abbrev pub peeled : List ℕ → List ℕ
peeled bs = peeled_within (length bs) bs

-- whether a name is among some
abbrev pub is_among : List (List ℕ) → List ℕ → Bool
is_among names name = list_any (bytes_eq name) names

-- A pin, and whether it is meant as it is and not inverted.
abbrev pub Literal : Type 0
Literal = List ℕ × Bool

-- `!P` or `P'` of one of these pins
abbrev pub inverted_input : List (List ℕ) → List ℕ → Option (List ℕ)
inverted_input pins e =
    if (slice_index e 0 == exclamation_mark) && is_among pins (drop 1 e) then Some (drop 1 e)
    else (if (slice_index e (length e - 1) == apostrophe) && is_among pins (without_last e) then Some (without_last e)
    else None)

-- `P`, `!P` or `P'`
abbrev pub literal : List (List ℕ) → List ℕ → Option Literal
literal pins e = if is_among pins e then Some (e, true) else option_map (λ p. (p, false)) (inverted_input pins e)

-- the expression that a value is over one of these pins
abbrev pub expression : List (List ℕ) → Option (List ℕ) → Option Literal
expression pins None = None
expression pins (Some value) = literal pins (peeled (stripped value))
