-- The places in a text where cells stand: those behind `cell (`, where a cell's items begin.
use Rattle.std.specs.Prelude.{◌≡◌, ◌≤◌, ℕ, Bool, false, if◌then◌else◌, List, [], ◌∷◌, map, filter, drop, Option, Some}
use Rattle.std.specs.Prelude.{None, bytes_eq}
use Rattle.std.specs.List.{AllPairs}
use Rattle.std.specs.Ordering.{nat_cmp, ordering_then}
use Rattle.std.specs.declared.cmp.Ordering.{Ordering}
use Rattle.std.specs.Cmp.Lexicographic.{slice_cmp}
use Rattle.mintc_toml.specs.Rules.{is_name}
use Rattle.mintc_liberty_tokens.specs.Tokens.{Token, opening, word, is_item, tokens_of}
use Rattle.mintc_liberty_tokens.specs.Reading.{name_at}
use Rattle.mintc_liberty_tokens.specs.Scans.{Scan}
use Rattle.mintc_liberty_tokens.specs.Statements.{Statements, none, taken, front}
use Rattle.mintc_liberty_cell.specs.Meaning.{Group, groups}
use Rattle.mintc_liberty.specs.Meaning.{cells_in}
use Rattle.mintc_liberty_cell.specs.Passing.{body_at, group_at}

-- A cell under its name.
abbrev pub Entry : Type 0
Entry = List ℕ × Statements

-- the cells of a library whose names are within the rules, as they come
abbrev pub is_named : Entry → Bool
is_named e = is_name e.0

-- the cells among some groups with a name within the rules
abbrev pub named_in : List Group → List Entry
named_in gs = filter is_named (cells_in gs)

-- the same of the tokens inside a library
abbrev pub named_cells : List Token → List Entry
named_cells ts = named_in (groups (front 63 ts).statements)

-- the cell that comes next, if it is one of these
abbrev pub next_in : Option (List ℕ × List Token × List Token) → List Entry
next_in None = []
next_in (Some g) = named_in (record { name = g.0; items = taken is_item g.1; inner = (front 62 g.2).statements } ∷ [])

-- the cell that comes next at the front of tokens, if it is one of these
abbrev pub cells_next : List Token → List Entry
cells_next ts = next_in (group_at ts)

-- behind `WORD (`
abbrev pub opened : List Token → Option (List Token)
opened (word w ∷ opening ∷ ts) = Some ts
opened _ = None

-- the statements inside a group that is there
abbrev pub statements_in : Option (List Token) → Statements
statements_in None = none
statements_in (Some ts) = (front 62 ts).statements

-- a name, or no bytes
abbrev pub name_or_none : Option (List ℕ) → List ℕ
name_or_none None = []
name_or_none (Some name) = name

-- the cell whose items begin here
abbrev pub entry_from : List Token → Entry
entry_from ts = (name_or_none (name_at ts), statements_in (body_at ts))

-- and the one whose items begin at a place of a text
abbrev pub entry_at : List ℕ → ℕ → Entry
entry_at text place = entry_from (tokens_of (drop place text))

-- the cells whose items begin at these places
abbrev pub entries_at : List ℕ → List ℕ → List Entry
entries_at text places = map (entry_at text) places

-- its name
abbrev pub name_from : List ℕ → ℕ → List ℕ
name_from text place = (entry_at text place).0

-- places by the names there, and places of one name in their order
abbrev pub place_cmp : List ℕ → ℕ → ℕ → Ordering
place_cmp text p q = ordering_then (slice_cmp nat_cmp (name_from text p) (name_from text q)) (nat_cmp p q)

-- Where `WORD (` comes next, the place is the one behind it.
abbrev pub IsBehind : Scan → ℕ → Type 0
IsBehind s place = (ts : List Token) → opened s.tokens ≡ Some ts → tokens_of (drop place s.text) ≡ ts

-- whether this was the name before
abbrev pub is_same : Option (List ℕ) → List ℕ → Bool
is_same None name = false
is_same (Some before) name = bytes_eq before name

-- the places whose name isn't the one before
abbrev pub firsts : List ℕ → Option (List ℕ) → List ℕ → List ℕ
firsts text before [] = []
firsts text before (p ∷ ps) =
    if is_same before (name_from text p) then firsts text (Some (name_from text p)) ps
    else p ∷ firsts text (Some (name_from text p)) ps

-- places that don't fall
abbrev pub Ascends : List ℕ → Type 0
Ascends ps = AllPairs (λ p q. p ≤ q) ps
