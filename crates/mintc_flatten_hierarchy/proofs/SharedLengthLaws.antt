-- The lengths of a hierarchy's lists are what the steps of its walk bring.
use Rattle.std.proofs.Common.{◌≡◌, ℕ, suc, ◌+◌, List, [], ◌∷◌, ◌++◌, length, Bool, true, false, refl, ap, arith, length-append}
use Rattle.std.proofs.lemmas.List.{length-map}
use Rattle.std.specs.List.{filter_map, flat_map, cons_option}
use Rattle.mintc_cells.specs.declared.cell.Cell.{Cell}
use Rattle.mintc_cells.specs.Rules.{pins, inputs_of, outputs_of}
use Rattle.mintc_netlist.specs.Nets.{nets_of}
use Rattle.mintc_flatten_hierarchy.specs.declared.hierarchy.Scope.{Scope}
use Rattle.mintc_flatten_hierarchy.specs.declared.hierarchy.Leaf.{Leaf}
use Rattle.mintc_flatten_hierarchy.specs.declared.hierarchy.Inner.{Inner}
use Rattle.mintc_flatten_hierarchy.specs.declared.hierarchy.Inner.TheVariants as inner
use Rattle.mintc_flatten_hierarchy.specs.declared.bindings.Binding.{Binding}
use Rattle.mintc_flatten_hierarchy.specs.declared.bindings.Binding.TheVariants.{OfCell, OfModule, OfNothing}
use Rattle.mintc_flatten_hierarchy.specs.Sources.{Source, module_at, cell_at, binding_in, pins_from, pins_of}
use Rattle.mintc_flatten_hierarchy.specs.Walks.{size_of, Step, total}
use Rattle.mintc_flatten_hierarchy.specs.Hierarchies.{scope_in, leaf_in, inner_in, net_of, nets_in, pins_in}

-- the lengths of the three lists over some steps
scopes_more : (s : Source) (step : Step) (t : Binding) (xs : List Scope) (m : ℕ) → length xs ≡ m → length (cons_option (scope_in step t) xs) ≡ (size_of s t).scopes + m
scopes_more s step (OfCell c) xs m e = omega arith
scopes_more s step (OfModule k) xs m e = omega arith
scopes_more s step OfNothing xs m e = omega arith

pub scopes-length : (s : Source) (steps : List Step) → length (filter_map (λ (step : Step). scope_in step (binding_in s step.item)) steps) ≡ (total s steps).scopes
scopes-length s [] = refl
scopes-length s (step ∷ steps) = scopes_more s step (binding_in s step.item) (filter_map (λ (step : Step). scope_in step (binding_in s step.item)) steps) (total s steps).scopes (scopes-length s steps)

leaves_more : (s : Source) (step : Step) (t : Binding) (xs : List Leaf) (m : ℕ) → length xs ≡ m → length (cons_option (leaf_in step t) xs) ≡ (size_of s t).leaves + m
leaves_more s step (OfCell c) xs m e = omega arith
leaves_more s step (OfModule k) xs m e = omega arith
leaves_more s step OfNothing xs m e = omega arith

pub leaves-length : (s : Source) (steps : List Step) → length (filter_map (λ (step : Step). leaf_in step (binding_in s step.item)) steps) ≡ (total s steps).leaves
leaves-length s [] = refl
leaves-length s (step ∷ steps) = leaves_more s step (binding_in s step.item) (filter_map (λ (step : Step). leaf_in step (binding_in s step.item)) steps) (total s steps).leaves (leaves-length s steps)

length-pins_from : (output : Bool) (n : ℕ) (names : List (List ℕ)) → length (pins_from output n names) ≡ length names
length-pins_from output n [] = refl
length-pins_from output n (name ∷ names) = ap suc (length-pins_from output (n + 1) names)

pub length-pins_of : (cell : Cell) → length (pins_of cell) ≡ length (pins cell)
length-pins_of cell =
    let a = length-append (pins_from false 0 (inputs_of cell)) (pins_from true (length (inputs_of cell)) (outputs_of cell)) in
    let b = length-pins_from false 0 (inputs_of cell) in
    let d = length-pins_from true (length (inputs_of cell)) (outputs_of cell) in
    let e = length-append (inputs_of cell) (outputs_of cell) in
    omega arith

inner_more : (s : Source) (step : Step) (t : Binding) (xs : List Inner) (m : ℕ) → length xs ≡ m → length (inner_in s step t ++ xs) ≡ (size_of s t).inner + m
inner_more s step (OfCell c) xs m e =
    let a = length-append (pins_in step.before.leaves (cell_at s c)) xs in
    let b = length-map (pins (cell_at s c)) (λ (name : List ℕ). inner.Pin step.before.leaves name) in
    let d = length-pins_of (cell_at s c) in
    omega arith
inner_more s step (OfModule k) xs m e =
    let a = length-append (nets_in step.before.scopes (module_at s k)) xs in
    let b = length-map (nets_of (module_at s k)) (net_of step.before.scopes) in
    omega arith
inner_more s step OfNothing xs m e = omega arith

pub inner-length : (s : Source) (steps : List Step) → length (flat_map (λ (step : Step). inner_in s step (binding_in s step.item)) steps) ≡ (total s steps).inner
inner-length s [] = refl
inner-length s (step ∷ steps) = inner_more s step (binding_in s step.item) (flat_map (λ (step : Step). inner_in s step (binding_in s step.item)) steps) (total s steps).inner (inner-length s steps)
