-- Targets that are there, and orders and marks of modules.
use Rattle.std.specs.Prelude.{◌≡◌, ◌<◌, ◌≤◌, ℕ, Bool, false, List, length, slice_index, slice_index_or}
use Rattle.std.specs.List.{AllByRecursion}
use Rattle.mintc_flatten_hierarchy.specs.declared.bindings.Binding.{Binding}
use Rattle.mintc_flatten_hierarchy.specs.declared.bindings.Binding.TheVariants.{OfCell, OfModule, OfNothing}
use Rattle.mintc_flatten_hierarchy.specs.Sources.{Source, module_at, is_stub, bindings_in}

-- What an item is an instance of is there.
abbrev pub IsThere : Source → Binding → Type 0
IsThere s (OfCell n) = n < length s.cells
IsThere s (OfModule k) = k < length s.modules
IsThere s OfNothing = Unit {0}

-- The modules of an order stand behind all modules that they instantiate.
abbrev pub Stands : List ℕ → ℕ → Binding → Type 0
Stands order i (OfModule k) = (j : ℕ) × (j < i) × (slice_index order j ≡ k)
Stands order i _ = Unit {0}

-- Modules of a source, each behind those that it instantiates.
pub record IsOrder (s : Source) (order : List ℕ) : Type 0 where
  pub behind : (i : ℕ) → i < length order →
      AllByRecursion (Stands order i) (bindings_in s (module_at s (slice_index order i)))
  pub number : (i : ℕ) → i < length order → slice_index order i < length s.modules
  pub few : length order ≤ length s.modules

-- each module that is no stub has a place in the order
abbrev pub HoldsAll : Source → List ℕ → Type 0
HoldsAll s order = (k : ℕ) → k < length s.modules → is_stub s (module_at s k) ≡ false → (i : ℕ) × (i < length order)
    × (slice_index order i ≡ k)

-- whether a module is marked
abbrev pub mark_at : List Bool → ℕ → Bool
mark_at marks k = slice_index_or marks k false
