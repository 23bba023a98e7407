-- The cells of a library.
use Rattle.std.specs.Prelude.{ℕ, if◌then◌else◌, List, [], ◌∷◌, flat_map, filter_map, Option, Some, None, option_map}
use Rattle.std.specs.Prelude.{Result, Ok, Err, codes, bytes_eq}
use Rattle.std.specs.Ordering.{nat_cmp, match_ordering}
use Rattle.std.specs.Cmp.Lexicographic.{slice_cmp}
use Rattle.mintc_toml.specs.Rules.{is_name}
use Rattle.mintc_cells.specs.declared.cell.Cell.{Cell}
use Rattle.mintc_liberty_tokens.specs.Statements.{Statements}
use Rattle.mintc_liberty_cell.specs.Meaning.{Group, groups, only_name, cell_of}
use Rattle.mintc_liberty.specs.Texts.{library_of}

-- what stands inside, under a name where there is one
abbrev pub under : Statements → Option (List ℕ) → List (List ℕ × Statements)
under inner None = []
under inner (Some name) = (name, inner) ∷ []

-- the groups `cell` with one item, under their names
abbrev pub cell_in : Group → List (List ℕ × Statements)
cell_in g = if bytes_eq g.name (codes "cell") then under g.inner (only_name g.items) else []

-- the cells among some groups
abbrev pub cells_in : List Group → List (List ℕ × Statements)
cells_in gs = flat_map cell_in gs

-- a name put in byte order among others, unless it is there
abbrev pub put : {A : Type 0} → List ℕ × A → List (List ℕ × A) → List (List ℕ × A)
put e [] = e ∷ []
put e (f ∷ fs) = match_ordering (slice_cmp nat_cmp e.0 f.0) (e ∷ f ∷ fs) (f ∷ fs) (f ∷ put e fs)

-- some put in, one after the other
abbrev pub put_all : {A : Type 0} → List (List ℕ × A) → List (List ℕ × A) → List (List ℕ × A)
put_all [] fs = fs
put_all (e ∷ es) fs = put_all es (put e fs)

-- the cell of a name, if it is one
abbrev pub usable : List ℕ × Statements → Option (List ℕ × Cell)
usable e = if is_name e.0 then option_map (λ cell. (e.0, cell)) (cell_of e.1) else None

-- the cells of a library, in byte order of their names; of several groups of a name the first counts
abbrev pub cells_of_library : Statements → List (List ℕ × Cell)
cells_of_library is = filter_map usable (put_all (cells_in (groups is)) [])

-- the cells of the statements, where the text is in the grammar
abbrev pub read : Result Statements ℕ → Result (List (List ℕ × Cell)) ℕ
read (Ok is) = Ok (cells_of_library is)
read (Err entry) = Err entry

-- The cells of a text, or the number of its Syntax.
abbrev pub liberty_cells : List ℕ → Result (List (List ℕ × Cell)) ℕ
liberty_cells text = read (library_of text)
