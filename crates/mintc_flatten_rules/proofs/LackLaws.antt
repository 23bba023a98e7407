-- What lacks a port or a pin, by sets of names.
use Rattle.std.proofs.Common.{◌≡◌, ℕ, suc, ◌+◌, List, [], ◌∷◌, ◌++◌, length, map, position, nat_lt, bytes_eq, Bool, true, false, not, ◌||◌, cond, is_some, Some, None, refl, sym, ap, subst, ◌∙◌, arith}
use Rattle.std.specs.List.{list_any, flat_map, fold, position_or_len}
use Rattle.std.proofs.lemmas.Bool.Decides.{nat_tests}
use Rattle.std.proofs.lemmas.List.{map-append}
use Rattle.std.proofs.lemmas.List.Folds.{list_any-append}
use Rattle.std.proofs.lemmas.Slice.Eq.{bytes_eq-Decides}
use Rattle.mintc_cells.specs.declared.cell.Cell.{Cell}
use Rattle.mintc_cells.specs.Rules.{inputs_of, outputs_of, pins}
use Rattle.mintc_netlist.specs.declared.module.Item.{Item}
use Rattle.mintc_netlist.specs.declared.module.Item.TheVariants as item
use Rattle.mintc_netlist.specs.declared.module.Module.{Module}
use Rattle.mintc_text_names.specs.Names.{is_among, with_name}
use Rattle.mintc_netlist.specs.Nets.{port_names, declares_port}
use Rattle.mintc_netlist.specs.Connections.{Pin, pin_names, port_of}
use Rattle.mintc_netlist.specs.Statements.{statement_of}
use Rattle.mintc_netlist_nets.proofs.SharedNetLaws.{among_last}
use Rattle.mintc_flatten_hierarchy.specs.declared.bindings.Binding.{Binding}
use Rattle.mintc_flatten_hierarchy.specs.declared.bindings.Binding.TheVariants.{OfCell, OfModule}
use Rattle.mintc_flatten_hierarchy.specs.Sources.{Source, module_at, cell_at, pins_from, pins_of}
use Rattle.mintc_flatten_hierarchy.specs.Faults.{is_no_pin}
use Rattle.mintc_flatten_rules.specs.Firsts.{IsOfModule}
use Rattle.mintc_flatten_binding.proofs.SharedBoolLaws.{or_assoc, or_false}
use Rattle.mintc_flatten_rules.specs.Lacking.{name_set, port_set, declared_set, lacks_any, is_pin}

pub any_same : {X : Type 0} (p q : X → Bool) → ((x : X) → p x ≡ q x) → (xs : List X) → list_any p xs ≡ list_any q xs
any_same p q same [] = refl
any_same p q same (x ∷ xs) = ap (λ b. b || list_any p xs) (same x) ∙ ap (λ b. q x || b) (any_same p q same xs)

-- a name is in a set where it is in the list
there_already : (name x : List ℕ) (seen : List (List ℕ)) (b : Bool) → bytes_eq name x ≡ b → is_among x seen ≡ true → is_among name seen ≡ (is_among name seen || b)
there_already name x seen true e h =
    let same : x ≡ name = sym ((bytes_eq-Decides name x).0 e) in
    let in_it : is_among name seen ≡ true = subst (λ (n : List ℕ). is_among n seen ≡ true) same h in
    in_it ∙ sym (ap (λ b. b || true) in_it)
there_already name x seen false e h = sym (or_false (is_among name seen))

swap : (a b : Bool) → (a || b) ≡ (b || a)
swap true true = refl
swap true false = refl
swap false true = refl
swap false false = refl

with_by : (name x : List ℕ) (seen : List (List ℕ)) (b : Bool) → is_among x seen ≡ b → is_among name (cond b seen (seen ++ x ∷ [])) ≡ (is_among name seen || bytes_eq name x)
with_by name x seen true h = there_already name x seen (bytes_eq name x) refl h
with_by name x seen false h = among_last name x seen ∙ swap (bytes_eq name x) (is_among name seen)

among_fold : (name : List ℕ) (seen names : List (List ℕ)) → is_among name (fold with_name seen names) ≡ (is_among name seen || is_among name names)
among_fold name seen [] = sym (or_false (is_among name seen))
among_fold name seen (x ∷ names) =
    among_fold name (with_name seen x) names
    ∙ ap (λ b. b || is_among name names) (with_by name x seen (is_among x seen) refl)
    ∙ or_assoc (is_among name seen) (bytes_eq name x) (is_among name names)

pub among_set : (name : List ℕ) (names : List (List ℕ)) → is_among name (name_set names) ≡ is_among name names
among_set name names = among_fold name [] names

pub lacks_set : (names wanted : List (List ℕ)) → lacks_any (name_set names) wanted ≡ lacks_any names wanted
lacks_set names wanted = any_same (λ name. not (is_among name (name_set names))) (λ name. not (is_among name names)) (λ name. ap not (among_set name names)) wanted

-- a look-up finds what is there
place_by : (b : Bool) (n L : ℕ) (a : Bool) → nat_lt n L ≡ a → nat_lt (cond (not b) (1 + n) 0) (suc L) ≡ (b || a)
place_by true n L a h = grind (arith, nat_tests)
place_by false n L a h = let e : nat_lt (1 + n) (suc L) ≡ nat_lt n L = grind (arith, nat_tests) in e ∙ h

below : {X : Type 0} (p : X → Bool) (xs : List X) → nat_lt (position_or_len p xs) (length xs) ≡ list_any p xs
below p [] = refl
below p (x ∷ xs) = place_by (p x) (position_or_len p xs) (length xs) (list_any p xs) (below p xs)

some_cond : (b : Bool) (n : ℕ) → is_some (cond b (Some n) None) ≡ b
some_cond true n = refl
some_cond false n = refl

pub found-is : (name : List ℕ) (names : List (List ℕ)) → is_some (position (bytes_eq name) names) ≡ is_among name names
found-is name names = some_cond (nat_lt (position_or_len (bytes_eq name) names) (length names)) (position_or_len (bytes_eq name) names) ∙ below (bytes_eq name) names

-- the ports that items declare
pub declared-is : (name : List ℕ) (is : List Item) → is_among name (flat_map port_names is) ≡ list_any (declares_port name) is
declared-is name [] = refl
declared-is name (i ∷ is) = list_any-append (bytes_eq name) (port_names i) (flat_map port_names is) ∙ ap (λ b. declares_port name i || b) (declared-is name is)

pub direction-is : (s : Source) (m : Module) → lacks_any (declared_set m) m.ports ≡ is_no_pin s (statement_of [] m [] None)
direction-is s m =
    any_same (λ name. not (is_among name (declared_set m))) (λ name. not (list_any (declares_port name) m.items))
    (λ name. ap not (among_set name (flat_map port_names m.items) ∙ declared-is name m.items)) m.ports

-- the names of pins
pub port_pins : (m : Module) (names : List (List ℕ)) → pin_names (map (port_of m) names) ≡ names
port_pins m [] = refl
port_pins m (name ∷ names) = ap (λ (ns : List (List ℕ)). name ∷ ns) (port_pins m names)

pins_names : (output : Bool) (number : ℕ) (names : List (List ℕ)) → pin_names (pins_from output number names) ≡ names
pins_names output number [] = refl
pins_names output number (name ∷ names) = ap (λ (ns : List (List ℕ)). name ∷ ns) (pins_names output (number + 1) names)

pub cell_pins : (cell : Cell) → pin_names (pins_of cell) ≡ pins cell
cell_pins cell =
    map-append (λ (p : Pin). p.name) (pins_from false 0 (inputs_of cell)) (pins_from true (length (inputs_of cell)) (outputs_of cell))
    ∙ ap (λ (ns : List (List ℕ)). ns ++ pin_names (pins_from true (length (inputs_of cell)) (outputs_of cell))) (pins_names false 0 (inputs_of cell))
    ∙ ap (λ (ns : List (List ℕ)). inputs_of cell ++ ns) (pins_names true (length (inputs_of cell)) (outputs_of cell))

pub is_pin_of_cell : (s : Source) (n : ℕ) (t : Binding) (name : List ℕ) → t ≡ OfCell n → is_among name (pins (cell_at s n)) ≡ is_pin s t name
is_pin_of_cell s n t name is =
    sym (ap (is_among name) (cell_pins (cell_at s n))) ∙ ap (λ (u : Binding). is_pin s u name) (sym is)

pub is_pin_of_module : (s : Source) (k : ℕ) (t : Binding) (name : List ℕ) (set : List (List ℕ)) → t ≡ OfModule k → set ≡ port_set (module_at s k) → is_among name set ≡ is_pin s t name
is_pin_of_module s k t name set is same =
    ap (is_among name) same
    ∙ among_set name (module_at s k).ports
    ∙ sym (ap (is_among name) (port_pins (module_at s k) (module_at s k).ports))
    ∙ ap (λ (u : Binding). is_pin s u name) (sym is)

-- what lacks a pin doesn't depend on the modules before
pub own_pin : (s : Source) → IsOfModule (is_no_pin s)
own_pin s earlier m before None = refl
own_pin s earlier m before (Some (item.Port entry output span names)) = refl
own_pin s earlier m before (Some (item.Wire entry span names)) = refl
own_pin s earlier m before (Some (item.Assign entry left right)) = refl
own_pin s earlier m before (Some (item.Instance entry cell name by_name connections)) = refl
