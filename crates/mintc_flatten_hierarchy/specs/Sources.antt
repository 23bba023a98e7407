-- What is flattened, and what the names of cells mean in it.
use Rattle.std.specs.Prelude.{ℕ, ◌+◌, Bool, true, false, not, is_some, Option, None, Some, List, [], ◌∷◌, ◌++◌, map}
use Rattle.std.specs.Prelude.{length, slice_index_or, filter, bytes_eq, position}
use Rattle.std.specs.List.{filter_map}
use Rattle.mintc_cells.specs.declared.cell.Cell.{Cell}
use Rattle.mintc_cells.specs.Rules.{inputs_of, outputs_of}
use Rattle.mintc_cells.specs.Entries.{number_of, cell_at as cell_numbered}
use Rattle.mintc_netlist.specs.declared.module.Item.{Item}
use Rattle.mintc_netlist.specs.declared.module.Item.TheVariants as item
use Rattle.mintc_netlist.specs.declared.module.Module.{Module}
use Rattle.mintc_netlist.specs.Connections.{Pin, pin_of, ports_of}
use Rattle.mintc_flatten_hierarchy.specs.declared.bindings.Binding.{Binding}
use Rattle.mintc_flatten_hierarchy.specs.declared.bindings.Binding.TheVariants.{OfCell, OfModule, OfNothing}

-- The cells that are described, and all modules of a netlist. Cells and modules are counted from 0.
pub record Source : Type 0 where
  pub cells : List (List ℕ × Cell)
  pub modules : List Module

-- a source by its cells and its modules
abbrev pub source_of : List (List ℕ × Cell) → List Module → Source
source_of cells modules = record { cells = cells; modules = modules }

-- a module that stands for those past the end of a list
abbrev pub no_module : Module
no_module = record { entry = 0; name = []; ports = []; items = [] }

-- the module of a number
abbrev pub module_at : Source → ℕ → Module
module_at s k = slice_index_or s.modules k no_module

-- the cell of a number
abbrev pub cell_at : Source → ℕ → Cell
cell_at s n = cell_numbered s.cells n

-- a module whose name is that of a described cell is a stub, and only the others count
abbrev pub is_stub : Source → Module → Bool
is_stub s m = is_some (number_of s.cells m.name)

-- the modules that are no stubs
abbrev pub modules_of : Source → List Module
modules_of s = filter (λ m. not (is_stub s m)) s.modules

-- a name is that of a cell, or else of a module, or of nothing
abbrev pub chosen : Option ℕ → Option ℕ → Binding
chosen (Some cell) number = OfCell cell
chosen None (Some number) = OfModule number
chosen None None = OfNothing

-- whether a module has a name
abbrev pub is_called : List ℕ → Module → Bool
is_called name m = bytes_eq name m.name

-- what the name of an instance's cell means
abbrev pub binding_of : Source → List ℕ → Binding
binding_of s name = chosen (number_of s.cells name) (position (is_called name) s.modules)

-- what an item is an instance of
abbrev pub binding_in : Source → Item → Binding
binding_in s (item.Instance entry cell name by_name connections) = binding_of s cell
binding_in s _ = OfNothing

-- the pins of a cell, in cell order from a number on
abbrev pub pins_from : Bool → ℕ → List (List ℕ) → List Pin
pins_from output number [] = []
pins_from output number (name ∷ names) = pin_of name output (number ∷ []) ∷ pins_from output (number + 1) names

-- the pins of a cell: the inputs, and then the outputs
abbrev pub pins_of : Cell → List Pin
pins_of cell = pins_from false 0 (inputs_of cell) ++ pins_from true (length (inputs_of cell)) (outputs_of cell)

-- the pins of what an instance is of
abbrev pub binding_pins : Source → Binding → List Pin
binding_pins s (OfCell n) = pins_of (cell_at s n)
binding_pins s (OfModule k) = ports_of (module_at s k)
binding_pins s OfNothing = []

-- the pins of what an item is an instance of
abbrev pub pins_at : Source → Item → List Pin
pins_at s i = binding_pins s (binding_in s i)

-- the number of the module of which an item is an instance
abbrev pub scope_number : Binding → Option ℕ
scope_number (OfModule k) = Some k
scope_number _ = None

-- the modules that a module instantiates, in the order of its instances
abbrev pub children_of : Source → Module → List ℕ
children_of s m = filter_map (λ i. scope_number (binding_in s i)) m.items

-- what each item of a module is an instance of
abbrev pub bindings_in : Source → Module → List Binding
bindings_in s m = map (binding_in s) m.items
