-- The groups among statements, one by one.
use Rattle.std.proofs.Common.{◌≡◌, ℕ, ◌-◌, ◌<◌, List, [], ◌∷◌, ◌++◌, length, Option, Some, None, IfNone, ap, ◌∙◌, arith}
use Rattle.mintc_liberty_tokens.specs.Tokens.{Token, opening, colon, comma, word, is_item, names_in}
use Rattle.mintc_liberty_tokens.specs.Statements.{Statement, Statements, more, attribute, plain, group, Front, taken, statement_by, front}
use Rattle.mintc_liberty_cell.specs.Meaning.{Group, groups}
use Rattle.mintc_liberty_cell.specs.Passing.{group_from, group_at, body_at}
use Rattle.mintc_liberty_tokens.specs.Reading.{word_at, statement_rest}
use Rattle.mintc_liberty_tokens.proofs.SharedNestLaws.{word-there}
use Rattle.mintc_liberty_cell.proofs.SharedStepLaws.{one-more, no-more}

abbrev Next : Type 0
Next = Option (List ℕ × List Token × List Token)

-- the group that comes next, where groups nest so deep at most
abbrev pub group_if : ℕ → Next → List Group
group_if room None = []
group_if room (Some g) = record { name = g.0; items = taken is_item g.1; inner = (front (room - 1) g.2).statements } ∷ []

-- what a statement adds
abbrev group_of : Statement → List Group
group_of (attribute w v) = []
group_of (plain w items) = []
group_of (group w items inner) = record { name = w; items = items; inner = inner } ∷ []

added : (s : Statement) (is : Statements) → groups (more s is) ≡ group_of s ++ groups is
added s is = grind arith

-- a statement is this group
says : (room : ℕ) (ts us : List Token) (s : Statement) → statement_by front room ts ≡ Some (s, us) → group_of s ≡ group_if room (group_at ts)
says room ts us s e = grind arith

pub group-step : (room : ℕ) (ts us : List Token) → statement_rest room ts ≡ Some us →
    groups (front room ts).statements ≡ group_if room (group_at ts) ++ groups (front room us).statements
group-step room ts us e =
    let m = one-more room ts us e in
    ap (λ (f : Front). groups f.statements) m.2 ∙ added m.0 _ ∙ ap (λ gs. gs ++ groups (front room us).statements) (says room ts us m.0 m.1)

pub group-end : (room : ℕ) (ts : List Token) → statement_rest room ts ≡ None → groups (front room ts).statements ≡ []
group-end room ts e = ap (λ (f : Front). groups f.statements) (no-more room ts e)

-- the group that comes next, by what stands behind its items
pub group-by : (ts us vs : List Token) (w : List ℕ) (o : Option (List Token)) → word_at ts ≡ Some (w, us) → us ≡ opening ∷ vs → body_at vs ≡ o → group_at ts ≡ group_from w vs o
group-by ts us vs w o e f g = ap group_at (word-there ts us w e ∙ ap (λ l. word w ∷ l) f) ∙ ap (group_from w vs) g

-- Names among items

abbrev names : List Token → List (List ℕ)
names ts = names_in (taken is_item ts)

-- a comma and a colon are no names
pub colon-passed : (ts us : List Token) → ts ≡ colon ∷ us → (names ts ≡ names us) × (length us < length ts)
colon-passed ts us e = let l = ap length e in (ap names e, omega (arith, l))

pub comma-passed : (ts us : List Token) → ts ≡ comma ∷ us → (names ts ≡ names us) × (length us < length ts)
comma-passed ts us e = let l = ap length e in (ap names e, omega (arith, l))

-- where no group comes next
pub none-next : {G : Type 0} (next : Option G) (ts : List Token) → IfNone next (group_at ts ≡ None) → ((g : G) → next ≡ Some g → ⊥) → group_at ts ≡ None
none-next next ts h n = grind (arith, n)
