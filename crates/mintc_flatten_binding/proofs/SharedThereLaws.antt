-- What items are instances of, and what is kept of each module.
use Rattle.std.proofs.Common.{◌≡◌, ℕ, ◌<◌, map, position, bytes_eq, Option, Some, None, IfSome, get_or, List, length, subst, ap, ◌∙◌}
use Rattle.std.proofs.lemmas.List.{length-map, get_or-map}
use Rattle.mintc_cells.specs.declared.cell.Cell.{Cell}
use Rattle.mintc_cells.specs.Entries.{number_of}
use Rattle.mintc_netlist.specs.declared.module.Item.{Item}
use Rattle.mintc_netlist.specs.declared.module.Item.TheVariants as item
use Rattle.mintc_netlist.specs.declared.module.Module.{Module}
use Rattle.mintc_flatten_hierarchy.specs.Sources.{Source, no_module, module_at, chosen, is_called, binding_in}
use Rattle.mintc_flatten_binding.specs.Orders.{IsThere}
use Rattle.mintc_flatten_binding.proofs.IndexLaws.{position_within}

-- What items are instances of is there.
chosen_there : (s : Source) (cell number : Option ℕ) → IfSome cell (λ n. n < length s.cells) → IfSome number (λ k. k < length s.modules) → IsThere s (chosen cell number)
chosen_there s (Some n) k h g = h
chosen_there s None (Some k) h g = g
chosen_there s None None h g = tt

cell_within : (s : Source) (name : List ℕ) → IfSome (number_of s.cells name) (λ n. n < length s.cells)
cell_within s name =
    let e : length (map (λ (x : List ℕ × Cell). x.0) s.cells) ≡ length s.cells = length-map s.cells (λ (x : List ℕ × Cell). x.0) in
    subst (λ (m : ℕ). IfSome (number_of s.cells name) (λ n. n < m)) e (position_within (bytes_eq name) (map (λ (x : List ℕ × Cell). x.0) s.cells))

pub there : (s : Source) (i : Item) → IsThere s (binding_in s i)
there s (item.Instance entry cell name by_name connections) =
    chosen_there s (number_of s.cells cell) (position (is_called cell) s.modules) (cell_within s cell) (position_within (is_called cell) s.modules)
there s (item.Port entry output span names) = tt
there s (item.Wire entry span names) = tt
there s (item.Assign entry left right) = tt

-- what is kept of each module, at one module
pub kept_at : {X : Type 0} (s : Source) (f : Module → X) (xs : List X) (k : ℕ) (x : X) → xs ≡ map f s.modules → k < length s.modules → x ≡ get_or xs k x → x ≡ f (module_at s k)
kept_at {X} s f xs k x same inside is = is ∙ ap (λ (ys : List X). get_or ys k x) same ∙ get_or-map f s.modules k no_module x inside
