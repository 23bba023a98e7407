-- The pins of what an instance is of, by their numbers.
use Rattle.std.proofs.Common.{◌≡◌, ℕ, zero, suc, ◌+◌, ◌-◌, ◌<◌, ◌≤◌, nat_le, Bool, true, false, List, [], ◌∷◌, ◌++◌, map, length, get_or, Some, refl, sym, ap, ◌∙◌, subst, arith, length-append, zero-add}
use Rattle.std.proofs.lemmas.Bool.Decides.{nat_tests}
use Rattle.std.proofs.lemmas.List.{get_or_append_left, get_or-append_right, get_or-map, length-map}
use Rattle.mintc_cells.specs.declared.cell.Cell.{Cell}
use Rattle.mintc_cells.specs.Rules.{inputs_of, outputs_of, pins}
use Rattle.mintc_cells.specs.Entries.{is_output}
use Rattle.mintc_netlist.specs.Connections.{Pin, pin_of, port_of}
use Rattle.mintc_netlist.specs.declared.module.Module.{Module}
use Rattle.mintc_netlist.specs.Nets.{bits_of, range_of, place_of}
use Rattle.mintc_netlist_nets.specs.Tables.{bit_place}
use Rattle.mintc_flatten_hierarchy.specs.declared.bindings.Binding.{Binding}
use Rattle.mintc_flatten_hierarchy.specs.declared.bindings.Binding.TheVariants.{OfCell, OfModule}
use Rattle.mintc_flatten_hierarchy.specs.Sources.{Source, module_at, cell_at, pins_from, pins_of, binding_pins}
use Rattle.std.proofs.lemmas.Simd.{map-map}
use Rattle.mintc_flatten_binding.specs.Wired.{no_pin, pin_at}
use Rattle.mintc_flatten_hierarchy.proofs.SharedLengthLaws.{length-pins_of}

length-pins_from : (output : Bool) (n : ℕ) (names : List (List ℕ)) → length (pins_from output n names) ≡ length names
length-pins_from output n [] = refl
length-pins_from output n (name ∷ names) = ap suc (length-pins_from output (n + 1) names)

from_at : (output : Bool) (n : ℕ) (names : List (List ℕ)) (k : ℕ) → k < length names → get_or (pins_from output n names) k no_pin ≡ pin_of (get_or names k []) output ((n + k) ∷ [])
from_at output n [] k h = absurd (omega arith)
from_at output n (name ∷ names) zero h = ap (λ (i : ℕ). pin_of name output (i ∷ [])) (first n)
  where
    first : (n : ℕ) → n ≡ n + 0
    first n = omega arith
from_at output n (name ∷ names) (suc k) h =
    let inside : k < length names = omega arith in
    from_at output (n + 1) names k inside ∙ ap (λ (i : ℕ). pin_of (get_or names k []) output (i ∷ [])) (next n k)
  where
    next : (n k : ℕ) → (n + 1) + k ≡ n + suc k
    next n k = omega arith

-- a pin in two lists of names, those of inputs and those of outputs
among_inputs : (inputs outputs : List (List ℕ)) (k : ℕ) → k < length inputs →
    get_or (pins_from false 0 inputs ++ pins_from true (length inputs) outputs) k no_pin ≡ pin_of (get_or (inputs ++ outputs) k []) false (k ∷ [])
among_inputs inputs outputs k h =
    get_or_append_left (pins_from false 0 inputs) (pins_from true (length inputs) outputs) no_pin k (subst (λ (n : ℕ). k < n) (sym (length-pins_from false 0 inputs)) h)
    ∙ from_at false 0 inputs k h
    ∙ ap (λ (i : ℕ). pin_of (get_or inputs k []) false (i ∷ [])) (zero-add k)
    ∙ ap (λ (name : List ℕ). pin_of name false (k ∷ [])) (sym (get_or_append_left inputs outputs [] k h))

among_outputs : (inputs outputs : List (List ℕ)) (k : ℕ) → length inputs ≤ k → k < length inputs + length outputs →
    get_or (pins_from false 0 inputs ++ pins_from true (length inputs) outputs) k no_pin ≡ pin_of (get_or (inputs ++ outputs) k []) true (k ∷ [])
among_outputs inputs outputs k h g =
    get_or-append_right (pins_from false 0 inputs) (pins_from true (length inputs) outputs) (length inputs) k no_pin (length-pins_from false 0 inputs) h
    ∙ from_at true (length inputs) outputs (k - length inputs) (omega arith)
    ∙ ap (λ (i : ℕ). pin_of (get_or outputs (k - length inputs) []) true (i ∷ [])) (back (length inputs) k h)
    ∙ ap (λ (name : List ℕ). pin_of name true (k ∷ [])) (sym (get_or-append_right inputs outputs (length inputs) k [] refl h))
  where
    back : (n k : ℕ) → n ≤ k → n + (k - n) ≡ k
    back n k h = omega arith

among_both : (inputs outputs : List (List ℕ)) (k : ℕ) (b : Bool) → nat_le (length inputs) k ≡ b → k < length inputs + length outputs →
    get_or (pins_from false 0 inputs ++ pins_from true (length inputs) outputs) k no_pin ≡ pin_of (get_or (inputs ++ outputs) k []) b (k ∷ [])
among_both inputs outputs k true e g = let h : length inputs ≤ k = grind (arith, nat_tests) in among_outputs inputs outputs k h g
among_both inputs outputs k false e g = let h : k < length inputs = grind (arith, nat_tests) in among_inputs inputs outputs k h

-- a pin of a cell: its name, whether it is an output, and its one place
pub pin-is : (cell : Cell) (k : ℕ) → k < length (pins cell) → get_or (pins_of cell) k no_pin ≡ pin_of (get_or (pins cell) k []) (is_output cell k) (k ∷ [])
pin-is cell k h =
    among_both (inputs_of cell) (outputs_of cell) k (is_output cell k) refl (subst (λ (n : ℕ). k < n) (length-append (inputs_of cell) (outputs_of cell)) h)

-- the same of a binding that is a cell
pub count-cell : (s : Source) (t : Binding) (n : ℕ) → t ≡ OfCell n → length (binding_pins s t) ≡ length (pins (cell_at s n))
count-cell s t n is = ap (λ (t : Binding). length (binding_pins s t)) is ∙ length-pins_of (cell_at s n)

pub inside-cell : (s : Source) (t : Binding) (n k : ℕ) → t ≡ OfCell n → k < length (binding_pins s t) → k < length (pins (cell_at s n))
inside-cell s t n k is h = subst (λ (i : ℕ). k < i) (count-cell s t n is) h

pub pin-cell : (s : Source) (t : Binding) (n k : ℕ) → t ≡ OfCell n → k < length (binding_pins s t) →
    pin_at s t k ≡ pin_of (get_or (pins (cell_at s n)) k []) (is_output (cell_at s n) k) (k ∷ [])
pin-cell s t n k is h = ap (λ (t : Binding). pin_at s t k) is ∙ pin-is (cell_at s n) k (inside-cell s t n k is h)

-- and of one that is a module
pub inside-module : (s : Source) (t : Binding) (j k : ℕ) → t ≡ OfModule j → k < length (binding_pins s t) → k < length (module_at s j).ports
inside-module s t j k is h = subst (λ (i : ℕ). k < i) (ap (λ (t : Binding). length (binding_pins s t)) is ∙ length-map (module_at s j).ports (port_of (module_at s j))) h

pub pin-module : (s : Source) (t : Binding) (j k : ℕ) → t ≡ OfModule j → k < length (binding_pins s t) → pin_at s t k ≡ port_of (module_at s j) (get_or (module_at s j).ports k [])
pin-module s t j k is h =
    ap (λ (t : Binding). pin_at s t k) is ∙ get_or-map (port_of (module_at s j)) (module_at s j).ports k [] no_pin (inside-module s t j k is h)

-- the places of a module's pin, as those of a net
pub port-places : (s : Source) (t : Binding) (j k : ℕ) (m : Module) (name : List ℕ) → t ≡ OfModule j → k < length (binding_pins s t) → m ≡ module_at s j → name ≡ get_or (module_at s j).ports k [] →
    map (bit_place m) (bits_of name (range_of m name)) ≡ map Some (pin_at s t k).places
port-places s t j k m name is h at called =
    ap (λ (m : Module). map (bit_place m) (bits_of name (range_of m name))) at
    ∙ ap (λ (n : List ℕ). map (bit_place (module_at s j)) (bits_of n (range_of (module_at s j) n))) called
    ∙ sym (map-map Some (place_of (module_at s j)) (bits_of (get_or (module_at s j).ports k []) (range_of (module_at s j) (get_or (module_at s j).ports k []))))
    ∙ sym (ap (λ (p : Pin). map Some p.places) (pin-module s t j k is h))
