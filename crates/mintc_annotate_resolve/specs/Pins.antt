-- Which inner bit is which pin of which leaf, and what leaves and bits are called.
use Rattle.std.specs.Prelude.{ℕ, zero, suc, ◌+◌, ◌==◌, Bool, true, false, if◌then◌else◌, List, [], ◌∷◌, ◌++◌, length}
use Rattle.std.specs.Prelude.{map, slice_index_or, Option, Some, None, option_and_then, codes, decimal, nat_lt, nat_le}
use Rattle.std.specs.Prelude.{bytes_eq, position}
use Rattle.std.specs.List.{join_with_byte, range_with_len}
use Rattle.mintc_text.specs.Signs.{dot}
use Rattle.mintc_cells.specs.declared.cell.Cell.{Cell}
use Rattle.mintc_cells.specs.declared.cell.Cell.TheVariants.{Latch, Flop}
use Rattle.mintc_cells.specs.Rules.{pins, inputs_of, outputs_of}
use Rattle.mintc_cells.specs.Entries.{cell_at}
use Rattle.mintc_flatten_hierarchy.specs.declared.hierarchy.Hierarchy.{Hierarchy}
use Rattle.mintc_flatten_hierarchy.specs.declared.hierarchy.Scope.{Scope}
use Rattle.mintc_flatten_hierarchy.specs.declared.hierarchy.Leaf.{Leaf}
use Rattle.mintc_flatten_hierarchy.specs.declared.hierarchy.Inner.{Inner}
use Rattle.mintc_flatten_hierarchy.specs.declared.hierarchy.Inner.TheVariants.{Net, Pin}
use Rattle.mintc_flatten_hierarchy.specs.Shape.{CellTable}

-- a scope and a leaf that stand for those past the end of a list
abbrev pub no_scope : Scope
no_scope = record { «module» = 0; parent = 0; name = [] }

-- a leaf that stands for those past the end of a list
abbrev pub no_leaf : Leaf
no_leaf = record { scope = 0; name = []; cell = 0; first_pin = 0; entry = 0 }

-- the scope of a number
abbrev pub scope_at : Hierarchy → ℕ → Scope
scope_at h s = slice_index_or h.scopes s no_scope

-- the leaf of a number
abbrev pub leaf_at : Hierarchy → ℕ → Leaf
leaf_at h l = slice_index_or h.leaves l no_leaf

-- the cell of a leaf
abbrev pub leaf_cell : Hierarchy → CellTable → ℕ → Cell
leaf_cell h cells l = cell_at cells (leaf_at h l).cell

-- the numbers of all leaves
abbrev pub all_leaves : Hierarchy → List ℕ
all_leaves h = range_with_len 0 (length h.leaves)

-- a latch or a flop
abbrev pub is_storage : Cell → Bool
is_storage (Latch pin_d pin_g high outputs ignored setup hold has_hold dq_min dq_max cq_min cq_max has_cq width) = true
is_storage (Flop pin_d pin_clock rising outputs ignored setup hold has_hold cq_min cq_max width) = true
is_storage _ = false

-- ---- pins, numbered from 0 in cell order: first the input pins, then the output pins

-- how many input pins a cell has
abbrev pub input_count : Cell → ℕ
input_count cell = length (inputs_of cell)

-- how many output pins a cell has
abbrev pub output_count : Cell → ℕ
output_count cell = length (outputs_of cell)

-- the numbers of the input pins and of the output pins
abbrev pub input_numbers : Cell → List ℕ
input_numbers cell = range_with_len 0 (input_count cell)

-- the numbers of the output pins
abbrev pub output_numbers : Cell → List ℕ
output_numbers cell = range_with_len (input_count cell) (output_count cell)

-- a number, where a test passes
abbrev pub when : Bool → ℕ → Option ℕ
when test n = if test then Some n else None

-- the number of a pin by its name
abbrev pub pin_number : Cell → List ℕ → Option ℕ
pin_number cell name = position (bytes_eq name) (pins cell)

-- the number of an input pin by its name
abbrev pub input_pin : Cell → List ℕ → Option ℕ
input_pin cell name = option_and_then (λ i. when (nat_lt i (input_count cell)) i) (pin_number cell name)

-- the number of an output pin by its name
abbrev pub output_pin : Cell → List ℕ → Option ℕ
output_pin cell name = option_and_then (λ i. when (nat_le (input_count cell) i) i) (pin_number cell name)

-- the inner bit of a pin of a leaf
abbrev pub pin_bit : Hierarchy → ℕ → ℕ → ℕ
pin_bit h l i = (leaf_at h l).first_pin + i

-- ---- names The names of the instances from the top, which is scope 0, down to a scope. A scope comes after its
-- parent, so that as many steps as its number lead to the top.
abbrev pub path_within : Hierarchy → ℕ → ℕ → List (List ℕ)
path_within h zero s = []
path_within h (suc n) s = if s == 0 then [] else path_within h n (scope_at h s).parent ++ (scope_at h s).name ∷ []

-- the names from the top down to a scope
abbrev pub scope_path : Hierarchy → ℕ → List (List ℕ)
scope_path h s = path_within h s s

-- the names from the top down to a leaf
abbrev pub leaf_path : Hierarchy → ℕ → List (List ℕ)
leaf_path h l = scope_path h (leaf_at h l).scope ++ (leaf_at h l).name ∷ []

-- the names of a path with points between them
abbrev pub dotted : List (List ℕ) → List ℕ
dotted path = join_with_byte dot path

-- the text of an index behind the name of a vector
abbrev pub index_text : Option ℕ → List ℕ
index_text None = []
index_text (Some i) = codes "[" ++ decimal i ++ codes "]"

-- what an inner bit is called: a bit of a net of a scope, or a pin of a leaf
abbrev pub inner_name : Hierarchy → Inner → List ℕ
inner_name h (Net scope name index) = dotted (scope_path h scope ++ (name ++ index_text index) ∷ [])
inner_name h (Pin leaf pin) = dotted (leaf_path h leaf ++ pin ∷ [])

-- what all bits are called, and one of them
abbrev pub all_names : Hierarchy → List (List ℕ)
all_names h = map (inner_name h) h.inner

-- what an inner bit of a number is called
abbrev pub bit_name : Hierarchy → ℕ → List ℕ
bit_name h b = slice_index_or (all_names h) b []
