-- What is read of the statements inside a group while they are passed.
use Rattle.std.specs.Prelude.{ℕ, List, ◌∷◌, flat_map, if◌then◌else◌, Option, Some, None, option_and_then, bytes_eq}
use Rattle.mintc_liberty_tokens.specs.Tokens.{Token, opening, colon, word, is_value, bytes_of, after_left}
use Rattle.mintc_liberty_tokens.specs.Reading.{items_rest}
use Rattle.mintc_liberty_tokens.specs.Statements.{taken}

-- the bytes of the value at the front of tokens
abbrev pub value_bytes : List Token → List ℕ
value_bytes ts = flat_map bytes_of (taken is_value ts)

-- the tokens from the value on, where an attribute comes next, with its name
abbrev pub attribute_at : List Token → Option (List ℕ × List Token)
attribute_at (word w ∷ colon ∷ ts) = Some (w, ts)
attribute_at _ = None

-- the value of the attribute of this name, if one comes next
abbrev pub value_if : List ℕ → Option (List ℕ × List Token) → Option (List ℕ)
value_if k None = None
value_if k (Some p) = if bytes_eq p.0 k then Some (value_bytes p.1) else None

-- behind items, the tokens inside of a group's braces
abbrev pub body_at : List Token → Option (List Token)
body_at ts = option_and_then after_left (items_rest ts)

-- the group that comes next: its name, the tokens from its items on, and those inside
abbrev pub group_from : List ℕ → List Token → Option (List Token) → Option (List ℕ × List Token × List Token)
group_from w ts None = None
group_from w ts (Some inside) = Some (w, ts, inside)

-- the group that comes next, if one does
abbrev pub group_at : List Token → Option (List ℕ × List Token × List Token)
group_at (word w ∷ opening ∷ ts) = group_from w ts (body_at ts)
group_at _ = None
