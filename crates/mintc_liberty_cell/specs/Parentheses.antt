-- How many pairs of parentheses are outer ones, in one pass.
use Rattle.std.specs.Prelude.{ℕ, suc, ◌+◌, ◌-◌, min, ◌==◌, if◌then◌else◌, List, [], ◌∷◌, drop}
use Rattle.mintc_text.specs.Signs.{close_parenthesis, open_parenthesis}

-- how many open at the front
abbrev pub leading : List ℕ → ℕ
leading [] = 0
leading (b ∷ bs) = if b == open_parenthesis then suc (leading bs) else 0

-- How many of these pairs are outer ones of what is left, where so many parentheses are open: no more than are open
-- beside any byte but a closing one, and none where the bytes don't close what is open.
abbrev pub outer : ℕ → ℕ → List ℕ → ℕ
outer open_now pairs [] = if open_now == 0 then pairs else 0
outer open_now pairs (b ∷ bs) =
    if b == close_parenthesis then (if open_now == 0 then 0 else outer (open_now - 1) pairs bs)
    else outer (if b == open_parenthesis then open_now + 1 else open_now) (min pairs open_now) bs

-- how many pairs of parentheses of some bytes are outer ones
abbrev pub pairs : List ℕ → ℕ
pairs bs = outer (leading bs) (leading bs) (drop (leading bs) bs)
