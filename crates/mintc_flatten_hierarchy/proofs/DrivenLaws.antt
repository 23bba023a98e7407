-- No two joins of a hierarchy end at one bit: how many end at a number, over the steps of its walk.
use Rattle.std.proofs.Common.{◌≡◌, ◌≢◌, ℕ, zero, suc, ◌+◌, ◌<◌, ◌≤◌, nat_eq, Bool, true, false, not, cond, List, [], ◌∷◌, ◌++◌, map, length, filter, find, Option, Some, None, IfSome, refl, sym, ap, subst, arith, add_assoc, length-append}
use Rattle.std.specs.List.{All, AllByRecursion, AllPairs, flat_map, filter_map, cons_option}
use Rattle.std.specs.Option.{option_map, option_or}
use Rattle.std.proofs.lemmas.List.Elements.{All-from_recursion}
use Rattle.mintc_text.specs.declared.refusals.Refusal.{Refusal}
use Rattle.mintc_text.specs.declared.refusals.Refusal.TheVariants as refusal
use Rattle.mintc_cells.specs.Rules.{pins, inputs_of, outputs_of}
use Rattle.mintc_text.specs.declared.limits.Most.{Most}
use Rattle.mintc_netlist.specs.declared.expression.Piece.{Piece}
use Rattle.mintc_netlist.specs.declared.module.Item.{Item}
use Rattle.mintc_netlist.specs.declared.module.Item.TheVariants as item
use Rattle.mintc_netlist.specs.declared.module.Module.{Module}
use Rattle.mintc_netlist.specs.declared.module.Netlist.{Netlist}
use Rattle.mintc_netlist.specs.Nets.{nets_of}
use Rattle.mintc_netlist.specs.Expressions.{expression_places}
use Rattle.mintc_netlist.specs.Connections.{Pin, expression_at, Wiring, wiring_of, wirings_from, wirings_of, places_in}
use Rattle.mintc_netlist.specs.Statements.{Statement, statements_of, number_of, first_at_fault}
use Rattle.mintc_flatten_hierarchy.specs.declared.hierarchy.Leaf.{Leaf}
use Rattle.mintc_flatten_hierarchy.specs.declared.hierarchy.Join.{Join}
use Rattle.mintc_flatten_hierarchy.specs.declared.hierarchy.Hierarchy.{Hierarchy}
use Rattle.mintc_flatten_hierarchy.specs.declared.bindings.Binding.{Binding}
use Rattle.mintc_flatten_hierarchy.specs.declared.bindings.Binding.TheVariants.{OfCell, OfModule, OfNothing}
use Rattle.mintc_flatten_hierarchy.specs.Sources.{Source, source_of, no_module, module_at, cell_at, is_stub, modules_of, binding_in, pins_from, pins_of, binding_pins, pins_at}
use Rattle.mintc_flatten_hierarchy.specs.Faults.{is_name_twice, is_misfit, drives_in, is_second_driver}
use Rattle.mintc_flatten_hierarchy.specs.Walks.{Counts, counts, plus, size_of, Place, place_at, Step, step_at, total, after, steps_from, steps_inside, inside, walk}
use Rattle.mintc_flatten_hierarchy.specs.Hierarchies.{numbers_of, joined, wiring_joins, joins_in, leaf_in, hierarchy_of}
use Rattle.mintc_flatten_hierarchy.specs.Refusals.{tops_of, refused_by, name_twice_refusal, no_module_refusal, recursive_refusal, no_pin_refusal, width_refusal, two_drivers_refusal, statements_refusal, top_refusal, IsHierarchy}
use Rattle.mintc_flatten_hierarchy.specs.Shape.{CellTable}
use Rattle.mintc_flatten_hierarchy.specs.Driven.{IsOutputPin}
use Rattle.mintc_flatten_hierarchy.proofs.CountLaws.{how_many, how_many-append, how_many-map, once_apart, none_at, found, below, below_most, below_rises, below_next, between, between_fills, between_there}
use Rattle.mintc_flatten_hierarchy.proofs.SharedLengthLaws.{length-pins_of}
use Rattle.mintc_flatten_hierarchy.proofs.PassedLaws.{HasPlacedItems, all_placed, none_found, kept_at, not_stub, IsThere, binding_there}
use Rattle.mintc_flatten_hierarchy.proofs.SharedShapeLaws.{all_recursion, none_left, mapped_none, top_there, top_live}
use Rattle.mintc_flatten_hierarchy.proofs.OnceLaws.{input_places, HasPortsOnce, DrivesOnce, modules_once, modules_drive, FillsNets, fills_nets}

-- how many joins end at a number
abbrev ends : ℕ → List Join → ℕ
ends n joins = how_many (λ (j : Join). nat_eq n j.to) joins

abbrev is_at : ℕ → Option ℕ → Bool
is_at n None = false
is_at n (Some m) = nat_eq n m

joined_ends : (n : ℕ) (froms tos : List (Option ℕ)) → ends n (joined froms tos) ≤ how_many (is_at n) tos
joined_ends n [] [] = omega arith
joined_ends n [] (to ∷ tos) = omega arith
joined_ends n (None ∷ froms) [] = omega arith
joined_ends n (Some from ∷ froms) [] = omega arith
joined_ends n (None ∷ froms) (to ∷ tos) = let more = joined_ends n froms tos in omega (arith, more)
joined_ends n (Some from ∷ froms) (None ∷ tos) = let more = joined_ends n froms tos in omega (arith, more)
joined_ends n (Some from ∷ froms) (Some to ∷ tos) = let more = joined_ends n froms tos in omega (arith, more)

-- the numbers of an expression are the places that it drives, from the first bit of the scope on
numbers_at : (n first : ℕ) (os : List (Option ℕ)) → how_many (is_at n) (map (option_map (λ at. first + at)) os) ≡ found n first (filter_map (λ place. place) os)
numbers_at n first [] = refl
numbers_at n first (None ∷ os) = let more = numbers_at n first os in omega (arith, more)
numbers_at n first (Some at ∷ os) = let more = numbers_at n first os in omega (arith, more)

expression_ends : (n : ℕ) (place : Place) (froms : List (Option ℕ)) (pieces : List Piece) → ends n (joined froms (numbers_of place pieces)) ≤ found n place.first (places_in place.module_nets pieces)
expression_ends n place froms pieces =
    let most = joined_ends n froms (numbers_of place pieces) in
    let same = numbers_at n place.first (expression_places place.module_nets pieces) in
    omega (arith, most, same)

pin_ends : (n first : ℕ) (froms : List (Option ℕ)) (places : List ℕ) → ends n (joined froms (map (λ at. Some (first + at)) places)) ≤ found n first places
pin_ends n first froms places =
    let most = joined_ends n froms (map (λ at. Some (first + at)) places) in
    let same = how_many-map (is_at n) (λ at. Some (first + at)) places in
    omega (arith, most, same)

-- what wirings drive in the scope, and the input pins that they lead to
abbrev driven_by : Module → List Wiring → List ℕ
driven_by m ws = flat_map (λ (w : Wiring). places_in m w.pieces) (filter (λ (w : Wiring). w.pin.output) ws)

abbrev led_to : List Wiring → List ℕ
led_to ws = flat_map (λ (w : Wiring). w.pin.places) (filter (λ (w : Wiring). not w.pin.output) ws)

wiring_by : (n first : ℕ) (place : Place) (w : Wiring) (ws : List Wiring) (output : Bool) → ends n (flat_map (wiring_joins place first) ws) ≤ found n place.first (driven_by place.module_nets ws) + found n first (led_to ws) →
    ends n (cond output (joined (map (λ at. Some (first + at)) w.pin.places) (numbers_of place w.pieces)) (joined (numbers_of place w.pieces) (map (λ at. Some (first + at)) w.pin.places)) ++ flat_map (wiring_joins place first) ws)
    ≤ found n place.first (flat_map (λ (w : Wiring). places_in place.module_nets w.pieces) (cond output (w ∷ filter (λ (w : Wiring). w.pin.output) ws) (filter (λ (w : Wiring). w.pin.output) ws)))
    + found n first (flat_map (λ (w : Wiring). w.pin.places) (cond (not output) (w ∷ filter (λ (w : Wiring). not w.pin.output) ws) (filter (λ (w : Wiring). not w.pin.output) ws)))
wiring_by n first place w ws true more =
    let parts = how_many-append (λ (j : Join). nat_eq n j.to) (joined (map (λ at. Some (first + at)) w.pin.places) (numbers_of place w.pieces)) (flat_map (wiring_joins place first) ws) in
    let here = expression_ends n place (map (λ at. Some (first + at)) w.pin.places) w.pieces in
    let whole = how_many-append (λ at. nat_eq n (place.first + at)) (places_in place.module_nets w.pieces) (driven_by place.module_nets ws) in
    omega (arith, parts, here, whole, more)
wiring_by n first place w ws false more =
    let parts = how_many-append (λ (j : Join). nat_eq n j.to) (joined (numbers_of place w.pieces) (map (λ at. Some (first + at)) w.pin.places)) (flat_map (wiring_joins place first) ws) in
    let here = pin_ends n first (numbers_of place w.pieces) w.pin.places in
    let whole = how_many-append (λ at. nat_eq n (first + at)) w.pin.places (led_to ws) in
    omega (arith, parts, here, whole, more)

wirings_ends : (n first : ℕ) (place : Place) (ws : List Wiring) → ends n (flat_map (wiring_joins place first) ws) ≤ found n place.first (driven_by place.module_nets ws) + found n first (led_to ws)
wirings_ends n first place [] = omega arith
wirings_ends n first place (w ∷ ws) = wiring_by n first place w ws w.pin.output (wirings_ends n first place ws)

-- each input pin is led to by one wiring at most
unled_by : (n first : ℕ) (pin : Pin) (pins : List Pin) (ws : List Wiring) (output : Bool) → found n first (led_to ws) ≤ found n first (input_places pins) →
    found n first (led_to ws) ≤ found n first (flat_map (λ (p : Pin). p.places) (cond (not output) (pin ∷ filter (λ (p : Pin). not p.output) pins) (filter (λ (p : Pin). not p.output) pins)))
unled_by n first pin pins ws true more = more
unled_by n first pin pins ws false more = let whole = how_many-append (λ at. nat_eq n (first + at)) pin.places (input_places pins) in omega (arith, whole, more)

led_by : (n first : ℕ) (pin : Pin) (pins : List Pin) (pieces : List Piece) (ws : List Wiring) (output : Bool) → found n first (led_to ws) ≤ found n first (input_places pins) →
    found n first (flat_map (λ (w : Wiring). w.pin.places) (cond (not output) (wiring_of pin pieces ∷ filter (λ (w : Wiring). not w.pin.output) ws) (filter (λ (w : Wiring). not w.pin.output) ws)))
    ≤ found n first (flat_map (λ (p : Pin). p.places) (cond (not output) (pin ∷ filter (λ (p : Pin). not p.output) pins) (filter (λ (p : Pin). not p.output) pins)))
led_by n first pin pins pieces ws true more = more
led_by n first pin pins pieces ws false more =
    let parts = how_many-append (λ at. nat_eq n (first + at)) pin.places (led_to ws) in
    let whole = how_many-append (λ at. nat_eq n (first + at)) pin.places (input_places pins) in
    omega (arith, parts, whole, more)

connected_by : (n first : ℕ) (pin : Pin) (pins : List Pin) (ws : List Wiring) (o : Option (List Piece)) → found n first (led_to ws) ≤ found n first (input_places pins) →
    found n first (led_to (cons_option (option_map (wiring_of pin) o) ws)) ≤ found n first (input_places (pin ∷ pins))
connected_by n first pin pins ws None more = unled_by n first pin pins ws pin.output more
connected_by n first pin pins ws (Some pieces) more = led_by n first pin pins pieces ws pin.output more

wired_ends : (n first number : ℕ) (i : Item) (pins : List Pin) → found n first (led_to (wirings_from number i pins)) ≤ found n first (input_places pins)
wired_ends n first number i [] = omega arith
wired_ends n first number i (pin ∷ pins) =
    connected_by n first pin pins (wirings_from (number + 1) i pins) (expression_at i number pin.name) (wired_ends n first (number + 1) i pins)

-- the ends of a step's joins are what its item drives in its scope, and input pins of what it is an instance of
step_ends : (s : Source) (n : ℕ) (step : Step) (i : Item) →
    ends n (joins_in s step i) ≤ found n step.place.first (drives_in s step.place.module_nets i) + found n step.before.inner (input_places (pins_at s i))
step_ends s n step (item.Assign entry left right) = let here = expression_ends n step.place (numbers_of step.place right) left in omega (arith, here)
step_ends s n step (item.Instance entry cell name by_name connections) =
    let all = wirings_ends n step.before.inner step.place (wirings_of (item.Instance entry cell name by_name connections) (pins_at s (item.Instance entry cell name by_name connections))) in
    let led = wired_ends n step.before.inner 0 (item.Instance entry cell name by_name connections) (pins_at s (item.Instance entry cell name by_name connections)) in
    omega (arith, all, led)
step_ends s n step (item.Port entry output span names) = omega arith
step_ends s n step (item.Wire entry span names) = omega arith

-- the ends of the joins of some steps, and the inner bits that steps bring, in parts
abbrev all_ends : Source → ℕ → List Step → ℕ
all_ends s n steps = ends n (flat_map (λ (step : Step). joins_in s step step.item) steps)

ends-cons : (s : Source) (n : ℕ) (step : Step) (steps : List Step) → all_ends s n (step ∷ steps) ≡ ends n (joins_in s step step.item) + all_ends s n steps
ends-cons s n step steps = how_many-append (λ (j : Join). nat_eq n j.to) (joins_in s step step.item) (flat_map (λ (step : Step). joins_in s step step.item) steps)

ends-append : (s : Source) (n : ℕ) (xs ys : List Step) → all_ends s n (xs ++ ys) ≡ all_ends s n xs + all_ends s n ys
ends-append s n [] ys = omega arith
ends-append s n (x ∷ xs) ys =
    let whole = ends-cons s n x (xs ++ ys) in
    let part = ends-cons s n x xs in
    let more = ends-append s n xs ys in
    omega (arith, whole, part, more)

inner-append : (s : Source) (xs ys : List Step) → (total s (xs ++ ys)).inner ≡ (total s xs).inner + (total s ys).inner
inner-append s [] ys = omega arith
inner-append s (x ∷ xs) ys = let more = inner-append s xs ys in omega (arith, more)

-- whether a number is that of an output pin of an instance of a cell, and of how many among some steps
abbrev outs : Source → ℕ → ℕ → Binding → ℕ
outs s n first (OfCell c) = between (first + length (inputs_of (cell_at s c))) (first + length (pins (cell_at s c))) n
outs s n first t = 0

abbrev all_outs : Source → ℕ → List Step → ℕ
all_outs s n [] = 0
all_outs s n (step ∷ steps) = outs s n step.before.inner (binding_in s step.item) + all_outs s n steps

outs-append : (s : Source) (n : ℕ) (xs ys : List Step) → all_outs s n (xs ++ ys) ≡ all_outs s n xs + all_outs s n ys
outs-append s n [] ys = omega arith
outs-append s n (x ∷ xs) ys = let more = outs-append s n xs ys in omega (arith, more)

-- What drives an instance's input pins, its own output pins and all that stands inside it fill what it brings, each number once at most.
abbrev FillsInside : Source → ℕ → (Counts → Item → List Step) → Type 0
FillsInside s n within = (before : Counts) (i : Item) →
    ((found n before.inner (input_places (pins_at s i)) + outs s n before.inner (binding_in s i)) + (all_ends s n (within before i) + all_outs s n (within before i))) + below before.inner n
    ≤ below (before.inner + ((size_of s (binding_in s i)).inner + (total s (within before i)).inner)) n

steps_fill : (s : Source) (n : ℕ) (within : Counts → Item → List Step) → FillsInside s n within → (place : Place) (before : Counts) (is : List Item) →
    (all_ends s n (steps_from s within place before is) + all_outs s n (steps_from s within place before is)) + below before.inner n
    ≤ found n place.first (flat_map (drives_in s place.module_nets) is) + below (before.inner + (total s (steps_from s within place before is)).inner) n
steps_fill s n within each place before [] = let rises = below_rises before.inner (before.inner + 0) n (omega arith) in omega (arith, rises)
steps_fill s n within each place before (i ∷ is) =
    let parts = ends-append s n (step_at place before i ∷ within before i) (steps_from s within place (after s before (step_at place before i ∷ within before i)) is) in
    let sources = outs-append s n (step_at place before i ∷ within before i) (steps_from s within place (after s before (step_at place before i ∷ within before i)) is) in
    let first = ends-cons s n (step_at place before i) (within before i) in
    let here = step_ends s n (step_at place before i) i in
    let child = each before i in
    let more = steps_fill s n within each place (after s before (step_at place before i ∷ within before i)) is in
    let whole = how_many-append (λ at. nat_eq n (place.first + at)) (drives_in s place.module_nets i) (flat_map (drives_in s place.module_nets) is) in
    let count = inner-append s (step_at place before i ∷ within before i) (steps_from s within place (after s before (step_at place before i ∷ within before i)) is) in
    let high = ap (λ (k : ℕ). below (before.inner + k) n) count in
    let turned = ap (λ (k : ℕ). below k n) (add_assoc before.inner (total s (step_at place before i ∷ within before i)).inner (total s (steps_from s within place (after s before (step_at place before i ∷ within before i)) is)).inner) in
    omega (arith, parts, sources, first, here, child, more, whole, high, turned)

-- the input pins of a cell
input_by : (n b : ℕ) (x : Pin) (xs ys : List Pin) (output : Bool) → found n b (input_places (xs ++ ys)) ≡ found n b (input_places xs) + found n b (input_places ys) →
    found n b (flat_map (λ (p : Pin). p.places) (cond (not output) (x ∷ filter (λ (p : Pin). not p.output) (xs ++ ys)) (filter (λ (p : Pin). not p.output) (xs ++ ys))))
    ≡ found n b (flat_map (λ (p : Pin). p.places) (cond (not output) (x ∷ filter (λ (p : Pin). not p.output) xs) (filter (λ (p : Pin). not p.output) xs))) + found n b (input_places ys)
input_by n b x xs ys true more = more
input_by n b x xs ys false more =
    let whole = how_many-append (λ at. nat_eq n (b + at)) x.places (input_places (xs ++ ys)) in
    let part = how_many-append (λ at. nat_eq n (b + at)) x.places (input_places xs) in
    omega (arith, whole, part, more)

input-append : (n b : ℕ) (xs ys : List Pin) → found n b (input_places (xs ++ ys)) ≡ found n b (input_places xs) + found n b (input_places ys)
input-append n b [] ys = omega arith
input-append n b (x ∷ xs) ys = input_by n b x xs ys x.output (input-append n b xs ys)

inputs_fill : (n b k : ℕ) (names : List (List ℕ)) → found n b (input_places (pins_from false k names)) + below (b + k) n ≤ below (b + (k + length names)) n
inputs_fill n b k [] = let rises = below_rises (b + k) (b + (k + 0)) n (omega arith) in omega (arith, rises)
inputs_fill n b k (name ∷ names) =
    let here = below_next (b + k) n in
    let more = inputs_fill n b (k + 1) names in
    let low : b + k + 1 ≡ b + (k + 1) = omega arith in
    let high : b + (k + 1 + length names) ≡ b + (k + suc (length names)) = omega arith in
    let same = ap (λ (a : ℕ). below a n) low in
    let last = ap (λ (a : ℕ). below a n) high in
    omega (arith, here, more, same, last)

no_inputs : (k : ℕ) (names : List (List ℕ)) → input_places (pins_from true k names) ≡ []
no_inputs k [] = refl
no_inputs k (name ∷ names) = no_inputs (k + 1) names

cell_fills : (s : Source) (n b c : ℕ) → (found n b (input_places (pins_of (cell_at s c))) + outs s n b (OfCell c)) + below b n ≤ below (b + length (pins_of (cell_at s c))) n
cell_fills s n b c =
    let parts = input-append n b (pins_from false 0 (inputs_of (cell_at s c))) (pins_from true (length (inputs_of (cell_at s c))) (outputs_of (cell_at s c))) in
    let ins = inputs_fill n b 0 (inputs_of (cell_at s c)) in
    let none = ap (found n b) (no_inputs (length (inputs_of (cell_at s c))) (outputs_of (cell_at s c))) in
    let count = length-pins_of (cell_at s c) in
    let whole = length-append (inputs_of (cell_at s c)) (outputs_of (cell_at s c)) in
    let own = between_fills (b + length (inputs_of (cell_at s c))) (b + length (pins (cell_at s c))) n (omega (arith, whole)) in
    let start : b + 0 ≡ b = omega arith in
    let middle : b + (0 + length (inputs_of (cell_at s c))) ≡ b + length (inputs_of (cell_at s c)) = omega arith in
    let low = ap (λ (a : ℕ). below a n) start in
    let mid = ap (λ (a : ℕ). below a n) middle in
    let high = ap (λ (a : ℕ). below (b + a) n) count in
    omega (arith, parts, ins, none, own, low, mid, high)

-- what an instance is of, and all that stands inside it
abbrev FillsBinding : Source → Binding → Type 0
FillsBinding s (OfModule k) = FillsNets s (module_at s k)
FillsBinding s t = Unit {0}

binding_by : (s : Source) (n : ℕ) (within : Counts → Item → List Step) → FillsInside s n within → (before : Counts) (t : Binding) → FillsBinding s t →
    ((found n before.inner (input_places (binding_pins s t)) + outs s n before.inner t) + (all_ends s n (steps_inside s within before t) + all_outs s n (steps_inside s within before t))) + below before.inner n
    ≤ below (before.inner + ((size_of s t).inner + (total s (steps_inside s within before t)).inner)) n
binding_by s n within each before (OfModule k) nets =
    let all = steps_fill s n within each (place_at (module_at s k) before.scopes before.inner) (plus before (size_of s (OfModule k))) (module_at s k).items in
    let own = nets n before.inner in
    let turned = ap (λ (a : ℕ). below a n) (add_assoc before.inner (length (nets_of (module_at s k))) (total s (steps_inside s within before (OfModule k))).inner) in
    omega (arith, all, own, turned)
binding_by s n within each before (OfCell c) nets =
    let own = cell_fills s n before.inner c in
    let rises = below_rises (before.inner + length (pins_of (cell_at s c))) (before.inner + (length (pins_of (cell_at s c)) + 0)) n (omega arith) in
    omega (arith, own, rises)
binding_by s n within each before OfNothing nets = let rises = below_rises before.inner (before.inner + (0 + 0)) n (omega arith) in omega (arith, rises)

alone : (s : Source) (n : ℕ) (before : Counts) (t : Binding) → FillsBinding s t →
    ((found n before.inner (input_places (binding_pins s t)) + outs s n before.inner t) + (0 + 0)) + below before.inner n ≤ below (before.inner + ((size_of s t).inner + 0)) n
alone s n before (OfModule k) nets =
    let own = nets n before.inner in
    let rises = below_rises (before.inner + length (nets_of (module_at s k))) (before.inner + (length (nets_of (module_at s k)) + 0)) n (omega arith) in
    omega (arith, own, rises)
alone s n before (OfCell c) nets =
    let own = cell_fills s n before.inner c in
    let rises = below_rises (before.inner + length (pins_of (cell_at s c))) (before.inner + (length (pins_of (cell_at s c)) + 0)) n (omega arith) in
    omega (arith, own, rises)
alone s n before OfNothing nets = let rises = below_rises before.inner (before.inner + (0 + 0)) n (omega arith) in omega (arith, rises)

inside_fills : (s : Source) (n : ℕ) → ((i : Item) → FillsBinding s (binding_in s i)) → (deep : ℕ) → FillsInside s n (inside s deep)
inside_fills s n nets zero = λ before i. alone s n before (binding_in s i) (nets i)
inside_fills s n nets (suc deep) = λ before i. binding_by s n (inside s deep) (inside_fills s n nets deep) before (binding_in s i) (nets i)

-- at most one join of the whole walk ends at a number, and none at that of an output pin
walk_once : (s : Source) (top n : ℕ) → ((i : Item) → FillsBinding s (binding_in s i)) → FillsNets s (module_at s top) → all_ends s n (walk s top) + all_outs s n (walk s top) ≤ 1
walk_once s top n nets of_top =
    let all = binding_by s n (inside s (length s.modules)) (inside_fills s n nets (length s.modules)) (counts 0 0 0) (OfModule top) of_top in
    let most = below_most (0 + ((size_of s (OfModule top)).inner + (total s (walk s top)).inner)) n in
    omega (arith, all, most)

-- Where nothing is refused, each module that is no stub fills its nets.
record ArePassed (s : Source) : Type 0 where
  pub named : name_twice_refusal s ≡ None
  pub fitting : width_refusal s ≡ None
  pub driven : two_drivers_refusal s ≡ None

all_passed : (s : Source) → statements_refusal s ≡ None → ArePassed s
all_passed s h =
    let a = none_left (name_twice_refusal s) (option_or (no_module_refusal s) (option_or (recursive_refusal s) (option_or (no_pin_refusal s) (option_or (width_refusal s) (two_drivers_refusal s))))) h in
    let b = none_left (no_module_refusal s) (option_or (recursive_refusal s) (option_or (no_pin_refusal s) (option_or (width_refusal s) (two_drivers_refusal s)))) a.1 in
    let c = none_left (recursive_refusal s) (option_or (no_pin_refusal s) (option_or (width_refusal s) (two_drivers_refusal s))) b.1 in
    let d = none_left (no_pin_refusal s) (option_or (width_refusal s) (two_drivers_refusal s)) c.1 in
    let e = none_left (width_refusal s) (two_drivers_refusal s) d.1 in
    record { named = a.0; fitting = e.0; driven = e.1 }

live_fills : (s : Source) → ArePassed s → (k : ℕ) → k < length s.modules → is_stub s (module_at s k) ≡ false → FillsNets s (module_at s k)
live_fills s passed k inside live =
    let named = modules_once [] (modules_of s) (none_found is_name_twice (statements_of (modules_of s)) (no_fault is_name_twice refusal.NameTwice s passed.named)) in
    let driven = modules_drive s [] (modules_of s) (none_found (is_second_driver s) (statements_of (modules_of s)) (no_fault (is_second_driver s) refusal.TwoDrivers s passed.driven)) in
    let placed = all_placed s (mapped_none refusal.Width (first_at_fault (is_misfit s) (modules_of s)) passed.fitting) in
    let kept = not_stub (is_stub s (module_at s k)) live in
    fills_nets s (module_at s k)
    (kept_at HasPortsOnce (λ m. not (is_stub s m)) s.modules k no_module named inside kept)
    (kept_at (DrivesOnce s) (λ m. not (is_stub s m)) s.modules k no_module driven inside kept)
    (kept_at (HasPlacedItems s) (λ m. not (is_stub s m)) s.modules k no_module placed inside kept)
  where
    no_fault : (test : Statement → Bool) (kind : ℕ → Refusal) (s : Source) → refused_by test kind s ≡ None → find test (statements_of (modules_of s)) ≡ None
    no_fault test kind s h = mapped_none number_of (find test (statements_of (modules_of s))) (mapped_none kind (first_at_fault test (modules_of s)) h)

fills_by : (s : Source) → ArePassed s → (t : Binding) → IsThere s t → FillsBinding s t
fills_by s passed (OfModule k) there = live_fills s passed k there.0 there.1
fills_by s passed (OfCell c) there = tt
fills_by s passed OfNothing there = tt

-- A leaf of some steps has its output pins among those of the steps.
abbrev HasOuts : Source → List Step → Leaf → Type 0
HasOuts s steps leaf = (n : ℕ) → IsOutputPin s.cells leaf n → 1 ≤ all_outs s n steps

outs_by : (s : Source) (x : Step) (xs : List Step) (t : Binding) → binding_in s x.item ≡ t → IfSome (leaf_in x t) (HasOuts s (x ∷ xs))
outs_by s x xs (OfCell c) e = λ n pin.
    let here = between_there (x.before.inner + length (inputs_of (cell_at s c))) (x.before.inner + length (pins (cell_at s c))) n pin.0 pin.1 in
    let same = ap (outs s n x.before.inner) e in
    omega (arith, here, same)
outs_by s x xs (OfModule k) e = tt
outs_by s x xs OfNothing e = tt

later_outs : (s : Source) (x : Step) (xs : List Step) (leaf : Leaf) → HasOuts s xs leaf → HasOuts s (x ∷ xs) leaf
later_outs s x xs leaf h = λ n pin. let more = h n pin in omega (arith, more)

later_all : (s : Source) (x : Step) (xs : List Step) (leaves : List Leaf) → AllByRecursion (HasOuts s xs) leaves → AllByRecursion (HasOuts s (x ∷ xs)) leaves
later_all s x xs [] h = tt
later_all s x xs (leaf ∷ leaves) h = (later_outs s x xs leaf h.0, later_all s x xs leaves h.1)

leaves_have : (s : Source) (steps : List Step) → AllByRecursion (HasOuts s steps) (filter_map (λ (step : Step). leaf_in step (binding_in s step.item)) steps)
leaves_have s [] = tt
leaves_have s (x ∷ xs) =
    all_recursion (HasOuts s (x ∷ xs)) (leaf_in x (binding_in s x.item)) (filter_map (λ (step : Step). leaf_in step (binding_in s step.item)) xs) (outs_by s x xs (binding_in s x.item) refl)
    (later_all s x xs (filter_map (λ (step : Step). leaf_in step (binding_in s step.item)) xs) (leaves_have s xs))

-- no join ends at an output pin of such a leaf
abbrev EndsApart : CellTable → List Join → Leaf → Type 0
EndsApart cells joins leaf = All (λ (j : Join). IsOutputPin cells leaf j.to → ⊥) joins

leaf_apart : (s : Source) (steps : List Step) → ((n : ℕ) → all_ends s n steps + all_outs s n steps ≤ 1) → (leaf : Leaf) → HasOuts s steps leaf →
    EndsApart s.cells (flat_map (λ (step : Step). joins_in s step step.item) steps) leaf
leaf_apart s steps once leaf has =
    All-from_recursion (λ (j : Join). IsOutputPin s.cells leaf j.to → ⊥) (flat_map (λ (step : Step). joins_in s step step.item) steps)
    (none_at (IsOutputPin s.cells leaf) (λ (j : Join). j.to) (flat_map (λ (step : Step). joins_in s step step.item) steps)
    (λ n pin. let here = has n pin in let all = once n in omega (arith, here, all)))

leaves_apart : (s : Source) (steps : List Step) → ((n : ℕ) → all_ends s n steps + all_outs s n steps ≤ 1) → (leaves : List Leaf) → AllByRecursion (HasOuts s steps) leaves →
    AllByRecursion (EndsApart s.cells (flat_map (λ (step : Step). joins_in s step step.item) steps)) leaves
leaves_apart s steps once [] h = tt
leaves_apart s steps once (leaf ∷ leaves) h = (leaf_apart s steps once leaf h.0, leaves_apart s steps once leaves h.1)

-- in a hierarchy that isn't refused
hierarchy_once : (most : Most) (s : Source) (top : Option (List ℕ)) (h : Hierarchy) (is : IsHierarchy most s top h) (n : ℕ) → all_ends s n (walk s is.number) + all_outs s n (walk s is.number) ≤ 1
hierarchy_once most s top h is n =
    let both = none_left (statements_refusal s) (top_refusal most s (tops_of s top)) is.unrefused in
    let passed = all_passed s both.0 in
    let of_top = live_fills s passed is.number (top_there s top is.number is.one_top) (top_live s top is.number is.one_top) in
    walk_once s is.number n (λ i. fills_by s passed (binding_in s i) (binding_there s i)) of_top

driven_by_one : (most : Most) (s : Source) (top : Option (List ℕ)) (h : Hierarchy) → IsHierarchy most s top h → AllPairs (λ (a b : Join). a.to ≢ b.to) h.joins
driven_by_one most s top h is =
    subst (λ (g : Hierarchy). AllPairs (λ (a b : Join). a.to ≢ b.to) g.joins) (sym is.is_of_top)
    (once_apart (λ (j : Join). j.to) (hierarchy_of s is.number).joins (λ n. let once = hierarchy_once most s top h is n in omega (arith, once)))

pub one_driver : (most : Most) (cells : CellTable) (netlist : Netlist) (top : Option (List ℕ)) (h : Hierarchy) → IsHierarchy most (source_of cells netlist.modules) top h → AllPairs (λ (a b : Join). a.to ≢ b.to) h.joins
one_driver most cells netlist top h is = driven_by_one most (source_of cells netlist.modules) top h is

driven_by_none : (most : Most) (s : Source) (top : Option (List ℕ)) (h : Hierarchy) → IsHierarchy most s top h → All (EndsApart s.cells h.joins) h.leaves
driven_by_none most s top h is =
    subst (λ (g : Hierarchy). All (EndsApart s.cells g.joins) g.leaves) (sym is.is_of_top)
    (All-from_recursion (EndsApart s.cells (hierarchy_of s is.number).joins) (hierarchy_of s is.number).leaves
    (leaves_apart s (walk s is.number) (hierarchy_once most s top h is) (hierarchy_of s is.number).leaves (leaves_have s (walk s is.number))))

pub no_driver : (most : Most) (cells : CellTable) (netlist : Netlist) (top : Option (List ℕ)) (h : Hierarchy) → IsHierarchy most (source_of cells netlist.modules) top h → All (λ leaf. All (λ (j : Join). IsOutputPin cells leaf j.to → ⊥) h.joins) h.leaves
no_driver most cells netlist top h is = driven_by_none most (source_of cells netlist.modules) top h is
