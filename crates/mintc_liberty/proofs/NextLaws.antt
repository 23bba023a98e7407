-- The cells of a library, statement by statement.
use Rattle.std.proofs.Common.{◌≡◌, ℕ, Bool, true, false, not, cond, List, [], ◌∷◌, ◌++◌, filter, Option, Some, None, MatchBool, MatchOption, bytes_eq, codes, refl, sym, ap, ◌∙◌, arith}
use Rattle.std.proofs.lemmas.Grind.{flat_map-append}
use Rattle.std.proofs.lemmas.List.Elements.{filter-append}
use Rattle.mintc_toml.specs.Rules.{is_name}
use Rattle.mintc_liberty_tokens.specs.declared.reader.Kind.TheVariants as kind
use Rattle.mintc_liberty_tokens.specs.Tokens.{Token, opening, word, is_item}
use Rattle.mintc_liberty_tokens.specs.Statements.{taken, front}
use Rattle.mintc_liberty_tokens.specs.Reading.{kind_of, word_at, name_at, statement_rest}
use Rattle.mintc_liberty_tokens.proofs.SharedNestLaws.{word-there}
use Rattle.mintc_liberty_cell.specs.Meaning.{Group, groups, only_name}
use Rattle.mintc_liberty.specs.Meaning.{cells_in, cell_in, under}
use Rattle.mintc_liberty_cell.specs.Passing.{group_at, body_at}
use Rattle.mintc_liberty.specs.Places.{is_named, named_in, named_cells, next_in, cells_next, opened, entry_from, statements_in, name_or_none}
use Rattle.mintc_liberty_cell.proofs.SharedGroupLaws.{group_if, group-step, group-end}

pub opened-there : (ts us vs : List Token) (w : List ℕ) → word_at ts ≡ Some (w, us) → us ≡ opening ∷ vs → opened ts ≡ Some vs
opened-there ts us vs w e f = ap opened (word-there ts us w e ∙ ap (λ l. word w ∷ l) f)

pub opened-not : (ts us : List Token) (w : List ℕ) → word_at ts ≡ Some (w, us) → (kind.Opening ≡ kind_of us → ⊥) → opened ts ≡ None
opened-not ts us w e n = grind arith

-- Groups, of which cells are some

named-append : (gs hs : List Group) → named_in (gs ++ hs) ≡ named_in gs ++ named_in hs
named-append gs hs = ap (filter is_named) (flat_map-append cell_in gs hs) ∙ filter-append is_named (cells_in gs) (cells_in hs)

abbrev Next : Type 0
Next = Option (List ℕ × List Token × List Token)

next-is : (o : Next) → named_in (group_if 63 o) ≡ next_in o
next-is None = refl
next-is (Some g) = refl

pub cells-step : (ts us : List Token) → statement_rest 63 ts ≡ Some us → named_cells ts ≡ cells_next ts ++ named_cells us
cells-step ts us e =
    ap named_in (group-step 63 ts us e) ∙ named-append (group_if 63 (group_at ts)) (groups (front 63 us).statements)
    ∙ ap (λ es. es ++ named_cells us) (next-is (group_at ts))

pub cells-end : (ts : List Token) → statement_rest 63 ts ≡ None → named_cells ts ≡ []
cells-end ts e = ap named_in (group-end 63 ts e)

-- Whether the next group is a cell

-- a cell, by what its items name
cell-next : (ts : List Token) (w : List ℕ) (items inside : List Token) → group_at ts ≡ Some (w, items, inside) → false ≡ not (bytes_eq w (codes "cell")) →
    cells_next ts ≡ filter is_named (under (front 62 inside).statements (only_name (taken is_item items)) ++ [])
cell-next ts w items inside e n =
    let is : bytes_eq w (codes "cell") ≡ true = grind arith in
    ap next_in e ∙ ap (λ b. filter is_named (cond b (under (front 62 inside).statements (only_name (taken is_item items))) [] ++ [])) is

named-next : (ts : List Token) (w name : List ℕ) (items inside : List Token) → group_at ts ≡ Some (w, items, inside) → false ≡ not (bytes_eq w (codes "cell")) →
    only_name (taken is_item items) ≡ Some name → cells_next ts ≡ cond (is_name name) ((name, (front 62 inside).statements) ∷ []) []
named-next ts w name items inside e n o = cell-next ts w items inside e n ∙ ap (λ m. filter is_named (under (front 62 inside).statements m ++ [])) o

only-front : (ts : List Token) (name : List ℕ) → only_name (taken is_item ts) ≡ Some name → name_at ts ≡ Some name
only-front ts name e = grind arith

-- the items and the inside of a group that opens
group-parts : (ts us : List Token) (w : List ℕ) (items inside : List Token) → opened ts ≡ Some us → group_at ts ≡ Some (w, items, inside) → (us ≡ items) × (body_at us ≡ Some inside)
group-parts ts us w items inside o e = grind arith

pub group-opens : (ts : List Token) (w : List ℕ) (items inside : List Token) → group_at ts ≡ Some (w, items, inside) → opened ts ≡ Some items
group-opens ts w items inside e = grind arith

pub cell-there : (ts us : List Token) (w name : List ℕ) (items inside : List Token) → opened ts ≡ Some us → group_at ts ≡ Some (w, items, inside) → false ≡ not (bytes_eq w (codes "cell")) →
    only_name (taken is_item items) ≡ Some name → is_name name ≡ true → cells_next ts ≡ entry_from us ∷ []
cell-there ts us w name items inside o e n m r =
    let parts = group-parts ts us w items inside o e in
    let front-name : name_at us ≡ Some name = only-front us name (ap (λ ts. only_name (taken is_item ts)) parts.0 ∙ m) in
    named-next ts w name items inside e n m ∙ ap (λ b. cond b ((name, (front 62 inside).statements) ∷ []) []) r
    ∙ sym (ap (λ n. (name_or_none n, statements_in (body_at us)) ∷ []) front-name ∙ ap (λ b. (name, statements_in b) ∷ []) parts.1)

pub not-named : (ts : List Token) (w name : List ℕ) (items inside : List Token) → group_at ts ≡ Some (w, items, inside) → false ≡ not (bytes_eq w (codes "cell")) →
    only_name (taken is_item items) ≡ Some name → is_name name ≡ false → cells_next ts ≡ []
not-named ts w name items inside e n m r = named-next ts w name items inside e n m ∙ ap (λ b. cond b ((name, (front 62 inside).statements) ∷ []) []) r

-- where nothing is given
pub at-none : {X P : Type 0} (Q : X → Type 0) (o : Option X) → MatchOption o P Q → ((x : X) → o ≡ Some x → ⊥) → P
at-none Q None m n = m
at-none Q (Some x) m n = absurd (n x refl)

-- by what a test answers
pub by-answer : {X Y : Type 0} (b : Bool) → (b ≡ true → X) → (b ≡ false → Y) → MatchBool b X Y
by-answer true f g = f refl
by-answer false f g = g refl
