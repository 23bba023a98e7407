-- What the statements of a module drive comes once at most, its input ports included.
use Rattle.std.proofs.Common.{◌≡◌, ℕ, ◌+◌, ◌-◌, ◌<◌, ◌≤◌, nat_eq, nat_le, nat_lt, Bool, true, false, not, ◌&&◌, cond, List, [], ◌∷◌, ◌++◌, map, length, filter, reverse, slice_index_or, bytes_eq, Option, Some, None, refl, sym, ap, subst, arith, if◌then◌else◌}
use Rattle.std.specs.List.{All, AllByRecursion, flat_map, filter_map, cons_option, list_any, range_with_len}
use Rattle.std.specs.Option.{option_eq}
use Rattle.std.proofs.lemmas.Bool.Decides.{nat_tests}
use Rattle.std.proofs.lemmas.List.Elements.{All-head, All-tail}
use Rattle.std.proofs.lemmas.Slice.Eq.{bytes_eq-Decides}
use Rattle.mintc_netlist.specs.declared.expression.Span.{Span}
use Rattle.mintc_netlist.specs.declared.module.Item.{Item}
use Rattle.mintc_netlist.specs.declared.module.Item.TheVariants as item
use Rattle.mintc_netlist.specs.declared.module.Module.{Module}
use Rattle.mintc_netlist.specs.Again.{comes_again}
use Rattle.mintc_netlist.specs.Nets.{Bit, bit_of, is_bit, bits_of, indexes, range_of, is_output, nets_of, place_of}
use Rattle.mintc_netlist.specs.Expressions.{expression_places}
use Rattle.mintc_netlist.specs.Connections.{Pin, port_of, ports_of, Wiring, wirings_of, places_in, driven_first}
use Rattle.mintc_netlist.specs.Statements.{items_from, module_statements, statements_from}
use Rattle.mintc_flatten_hierarchy.specs.Sources.{Source, is_called, pins_at}
use Rattle.mintc_flatten_hierarchy.specs.Faults.{is_name_twice, drives_in, is_second_driver}
use Rattle.mintc_flatten_hierarchy.proofs.CountLaws.{tally, how_many, how_many-append, how_many-map, how_many-weaker, how_many-reverse, again_once, same_nat, range_once, found, below, fills}
use Rattle.mintc_flatten_hierarchy.proofs.PlacedLaws.{IsPlace}
use Rattle.mintc_flatten_hierarchy.proofs.PassedLaws.{IsPlacedWiring, IsPlacedItem, HasPlacedItems, ports_known, at_found, front_of, rest_of, or_right}
use Rattle.mintc_flatten_hierarchy.proofs.SharedShapeLaws.{HasPlaces, ports_placed}

-- the places of input pins
abbrev pub input_places : List Pin → List ℕ
input_places pins = flat_map (λ (p : Pin). p.places) (filter (λ (p : Pin). not p.output) pins)

-- an index comes once among those of a range
indexes_by : (a b j : ℕ) (t : Bool) → how_many (nat_eq j) (if t then range_with_len b (a - b + 1) else reverse (range_with_len a (b - a + 1))) ≤ 1
indexes_by a b j true = range_once b (a - b + 1) j
indexes_by a b j false = let turned = how_many-reverse (nat_eq j) (range_with_len a (b - a + 1)) in let once = range_once a (b - a + 1) j in omega (arith, turned, once)

indexes_once : (s : Span) (j : ℕ) → how_many (nat_eq j) (indexes s) ≤ 1
indexes_once s j = indexes_by s.msb s.lsb j (nat_le s.lsb s.msb)

-- the bits of a net that are a bit: one at most, and none where the name is another
flip : (i j : ℕ) → nat_eq i j ≡ true → nat_eq j i ≡ true
flip i j h = grind (arith, nat_tests)

no_index : (is : List ℕ) → how_many (λ i. option_eq nat_eq (Some i) None) is ≡ 0
no_index [] = refl
no_index (i ∷ is) = let more = no_index is in omega (arith, more)

at_index : (o : Option ℕ) (s : Span) → how_many (λ i. option_eq nat_eq (Some i) o) (indexes s) ≤ 1
at_index None s = let none = no_index (indexes s) in omega (arith, none)
at_index (Some j) s =
    let turned = how_many-weaker (λ i. option_eq nat_eq (Some i) (Some j)) (nat_eq j) (indexes s) (λ i h. flip i j h) in
    let once = indexes_once s j in
    omega (arith, turned, once)

never : {X : Type 0} (xs : List X) → how_many (λ x. false) xs ≡ 0
never [] = refl
never (x ∷ xs) = let more = never xs in omega (arith, more)

bits_by : (o : Option ℕ) (s : Span) (c : Bool) → how_many (λ i. c && option_eq nat_eq (Some i) o) (indexes s) ≤ tally c
bits_by o s true = at_index o s
bits_by o s false = let none = never (indexes s) in omega (arith, none)

alone_by : (c e : Bool) → tally (c && e) + 0 ≤ tally c
alone_by true true = omega arith
alone_by true false = omega arith
alone_by false e = omega arith

bits_once : (b : Bit) (name : List ℕ) (span : Option Span) → how_many (λ x. is_bit x b) (bits_of name span) ≤ tally (bytes_eq name b.name)
bits_once b name None = alone_by (bytes_eq name b.name) (option_eq nat_eq None b.index)
bits_once b name (Some s) =
    let same = how_many-map (λ x. is_bit x b) (λ i. bit_of name (Some i)) (indexes s) in
    let once = bits_by b.index s (bytes_eq name b.name) in
    omega (arith, same, once)

-- two bits of one place among the nets are both the bit that is there
is_there : (m : Module) (p : ℕ) (x d : Bit) → p < length (nets_of m) → nat_eq p (place_of m x) ≡ true → is_bit x (slice_index_or (nets_of m) p d) ≡ true
is_there m p x d inside same =
    let e : place_of m x ≡ p = sym (same_nat p (place_of m x) same) in
    subst (λ (k : ℕ). is_bit x (slice_index_or (nets_of m) k d) ≡ true) e (at_found (is_bit x) (nets_of m) d (subst (λ (k : ℕ). k < length (nets_of m)) (sym e) inside))

port_by : (m : Module) (p : ℕ) (b : Bit) (name : List ℕ) (names : List (List ℕ)) (output : Bool) → how_many (nat_eq p) (map (place_of m) (bits_of name (range_of m name))) ≤ tally (bytes_eq name b.name) →
    how_many (nat_eq p) (input_places (map (port_of m) names)) ≤ how_many (λ n. bytes_eq n b.name) names →
    how_many (nat_eq p) (flat_map (λ (q : Pin). q.places) (cond (not output) (port_of m name ∷ filter (λ (q : Pin). not q.output) (map (port_of m) names)) (filter (λ (q : Pin). not q.output) (map (port_of m) names))))
    ≤ how_many (λ n. bytes_eq n b.name) (name ∷ names)
port_by m p b name names true here more = omega (arith, more)
port_by m p b name names false here more =
    let parts = how_many-append (nat_eq p) (map (place_of m) (bits_of name (range_of m name))) (input_places (map (port_of m) names)) in
    omega (arith, parts, here, more)

ports_at : (m : Module) (p : ℕ) (d : Bit) (names : List (List ℕ)) → p < length (nets_of m) →
    how_many (nat_eq p) (input_places (map (port_of m) names)) ≤ how_many (λ n. bytes_eq n (slice_index_or (nets_of m) p d).name) names
ports_at m p d [] inside = omega arith
ports_at m p d (name ∷ names) inside =
    let same = how_many-map (nat_eq p) (place_of m) (bits_of name (range_of m name)) in
    let there = how_many-weaker (λ x. nat_eq p (place_of m x)) (λ x. is_bit x (slice_index_or (nets_of m) p d)) (bits_of name (range_of m name)) (λ x h. is_there m p x d inside h) in
    let once = bits_once (slice_index_or (nets_of m) p d) name (range_of m name) in
    port_by m p (slice_index_or (nets_of m) p d) name names (is_output m name) (omega (arith, same, there, once)) (ports_at m p d names inside)

same_bytes : (a b : List ℕ) → bytes_eq a b ≡ true → a ≡ b
same_bytes a b h = (bytes_eq-Decides a b).0 h

flip_bytes : (a b : List ℕ) → bytes_eq a b ≡ true → bytes_eq b a ≡ true
flip_bytes a b h = (bytes_eq-Decides b a).1 (sym (same_bytes a b h))

names_once : (ports : List (List ℕ)) (name : List ℕ) → comes_again bytes_eq [] ports ≡ false → how_many (λ n. bytes_eq n name) ports ≤ 1
names_once ports name h =
    let turned = how_many-weaker (λ n. bytes_eq n name) (bytes_eq name) ports (λ n e. flip_bytes n name e) in
    let once = again_once bytes_eq same_bytes name [] ports h (omega arith) in
    omega (arith, turned, once)

-- places past all nets are never among those of a module
past_place : (p size at : ℕ) → size ≤ p → at < size → nat_eq p at ≡ false
past_place p size at h k = grind (arith, nat_tests)

past_all : (p size : ℕ) (places : List ℕ) → size ≤ p → All (λ at. at < size) places → how_many (nat_eq p) places ≡ 0
past_all p size [] h all = refl
past_all p size (at ∷ places) h all =
    let here = ap tally (past_place p size at h (All-head (λ at. at < size) at places all)) in
    let more = past_all p size places h (All-tail (λ at. at < size) at places all) in
    omega (arith, here, more)

past_by : (p size : ℕ) (pin : Pin) (pins : List Pin) (output : Bool) → how_many (nat_eq p) pin.places ≡ 0 → how_many (nat_eq p) (input_places pins) ≡ 0 →
    how_many (nat_eq p) (flat_map (λ (q : Pin). q.places) (cond (not output) (pin ∷ filter (λ (q : Pin). not q.output) pins) (filter (λ (q : Pin). not q.output) pins))) ≡ 0
past_by p size pin pins true here more = more
past_by p size pin pins false here more = let parts = how_many-append (nat_eq p) pin.places (input_places pins) in omega (arith, parts, here, more)

past_pins : (p size : ℕ) (pins : List Pin) → size ≤ p → AllByRecursion (HasPlaces size) pins → how_many (nat_eq p) (input_places pins) ≡ 0
past_pins p size [] h all = refl
past_pins p size (pin ∷ pins) h all = past_by p size pin pins pin.output (past_all p size pin.places h all.0) (past_pins p size pins h all.1)

past_ports : (m : Module) (p : ℕ) → length (nets_of m) ≤ p → how_many (nat_eq p) (driven_first m) ≡ 0
past_ports m p h = past_pins p (length (nets_of m)) (ports_of m) h (ports_placed m m.ports (ports_known m))

-- Each place comes once at most among the input ports of a module whose ports have different names.
abbrev no_bit : Bit
no_bit = bit_of [] None

ports_once : (m : Module) (p : ℕ) → comes_again bytes_eq [] m.ports ≡ false → how_many (nat_eq p) (driven_first m) ≤ 1
ports_once m p h = by (nat_lt p (length (nets_of m))) refl
  where
    by : (t : Bool) → nat_lt p (length (nets_of m)) ≡ t → how_many (nat_eq p) (driven_first m) ≤ 1
    by true e =
        let all = ports_at m p no_bit m.ports (grind (arith, nat_tests)) in
        let once = names_once m.ports (slice_index_or (nets_of m) p no_bit).name h in
        omega (arith, all, once)
    by false e = let none = past_ports m p (grind (arith, nat_tests)) in omega (arith, none)

-- what a statement drives has places of the module's nets
past_option : (p : ℕ) (m : Module) (o : Option ℕ) (rest : List ℕ) → length (nets_of m) ≤ p → IsPlace m o → how_many (nat_eq p) rest ≡ 0 → how_many (nat_eq p) (cons_option o rest) ≡ 0
past_option p m None rest h is more = more
past_option p m (Some at) rest h is more = let here = ap tally (past_place p (length (nets_of m)) at h is) in omega (arith, here, more)

past_options : (p : ℕ) (m : Module) (os : List (Option ℕ)) → length (nets_of m) ≤ p → All (IsPlace m) os → how_many (nat_eq p) (filter_map (λ place. place) os) ≡ 0
past_options p m [] h all = refl
past_options p m (o ∷ os) h all = past_option p m o (filter_map (λ place. place) os) h (All-head (IsPlace m) o os all) (past_options p m os h (All-tail (IsPlace m) o os all))

past_wiring : (p : ℕ) (m : Module) (w : Wiring) (ws : List Wiring) (output : Bool) → how_many (nat_eq p) (places_in m w.pieces) ≡ 0 →
    how_many (nat_eq p) (flat_map (λ (w : Wiring). places_in m w.pieces) (filter (λ (w : Wiring). w.pin.output) ws)) ≡ 0 →
    how_many (nat_eq p) (flat_map (λ (w : Wiring). places_in m w.pieces) (cond output (w ∷ filter (λ (w : Wiring). w.pin.output) ws) (filter (λ (w : Wiring). w.pin.output) ws))) ≡ 0
past_wiring p m w ws true here more =
    let parts = how_many-append (nat_eq p) (places_in m w.pieces) (flat_map (λ (w : Wiring). places_in m w.pieces) (filter (λ (w : Wiring). w.pin.output) ws)) in
    omega (arith, parts, here, more)
past_wiring p m w ws false here more = more

past_wirings : (p : ℕ) (m : Module) (ws : List Wiring) → length (nets_of m) ≤ p → AllByRecursion (IsPlacedWiring m) ws →
    how_many (nat_eq p) (flat_map (λ (w : Wiring). places_in m w.pieces) (filter (λ (w : Wiring). w.pin.output) ws)) ≡ 0
past_wirings p m [] h all = refl
past_wirings p m (w ∷ ws) h all = past_wiring p m w ws w.pin.output (past_options p m (expression_places m w.pieces) h all.0) (past_wirings p m ws h all.1)

past_item : (s : Source) (p : ℕ) (m : Module) (i : Item) → length (nets_of m) ≤ p → IsPlacedItem s m i → how_many (nat_eq p) (drives_in s m i) ≡ 0
past_item s p m (item.Assign entry left right) h is = past_options p m (expression_places m left) h is.0
past_item s p m (item.Instance entry cell name by_name connections) h is =
    past_wirings p m (wirings_of (item.Instance entry cell name by_name connections) (pins_at s (item.Instance entry cell name by_name connections))) h is
past_item s p m (item.Port entry output span names) h is = refl
past_item s p m (item.Wire entry span names) h is = refl

past_items : (s : Source) (p : ℕ) (m : Module) (is : List Item) → length (nets_of m) ≤ p → AllByRecursion (IsPlacedItem s m) is → how_many (nat_eq p) (flat_map (drives_in s m) is) ≡ 0
past_items s p m [] h all = refl
past_items s p m (i ∷ is) h all =
    let parts = how_many-append (nat_eq p) (drives_in s m i) (flat_map (drives_in s m) is) in
    let here = past_item s p m i h all.0 in
    let more = past_items s p m is h all.1 in
    omega (arith, parts, here, more)

-- no statement drives what is driven already
drives_before : (s : Source) (p : ℕ) (m : Module) (before : List Item) (i : Item) →
    how_many (nat_eq p) (flat_map (drives_in s m) (before ++ i ∷ [])) ≡ how_many (nat_eq p) (flat_map (drives_in s m) before) + how_many (nat_eq p) (drives_in s m i)
drives_before s p m [] i = let parts = how_many-append (nat_eq p) (drives_in s m i) [] in omega (arith, parts)
drives_before s p m (x ∷ before) i =
    let parts = how_many-append (nat_eq p) (drives_in s m x) (flat_map (drives_in s m) (before ++ i ∷ [])) in
    let others = how_many-append (nat_eq p) (drives_in s m x) (flat_map (drives_in s m) before) in
    let more = drives_before s p m before i in
    omega (arith, parts, others, more)

items_once : (s : Source) (p : ℕ) (earlier : List Module) (m : Module) (before is : List Item) → AllByRecursion (λ st. is_second_driver s st ≡ false) (items_from earlier m before is) →
    how_many (nat_eq p) (driven_first m) + how_many (nat_eq p) (flat_map (drives_in s m) before) ≤ 1 →
    how_many (nat_eq p) (driven_first m) + (how_many (nat_eq p) (flat_map (drives_in s m) before) + how_many (nat_eq p) (flat_map (drives_in s m) is)) ≤ 1
items_once s p earlier m before [] passed once = omega (arith, once)
items_once s p earlier m before (i ∷ is) passed once =
    let parts = how_many-append (nat_eq p) (driven_first m) (flat_map (drives_in s m) before) in
    let here = again_once nat_eq same_nat p (driven_first m ++ flat_map (drives_in s m) before) (drives_in s m i) passed.0 (omega (arith, parts, once)) in
    let longer = drives_before s p m before i in
    let more = items_once s p earlier m (before ++ i ∷ []) is passed.1 (omega (arith, parts, here, longer)) in
    let whole = how_many-append (nat_eq p) (drives_in s m i) (flat_map (drives_in s m) is) in
    omega (arith, more, longer, whole)

-- each module's ports have different names, and its statements drive each place once
abbrev pub HasPortsOnce : Module → Type 0
HasPortsOnce m = comes_again bytes_eq [] m.ports ≡ false

abbrev pub DrivesOnce : Source → Module → Type 0
DrivesOnce s m = (p : ℕ) → how_many (nat_eq p) (driven_first m) ≤ 1 → how_many (nat_eq p) (driven_first m) + how_many (nat_eq p) (flat_map (drives_in s m) m.items) ≤ 1

pub modules_once : (earlier ms : List Module) → AllByRecursion (λ st. is_name_twice st ≡ false) (statements_from earlier ms) → AllByRecursion HasPortsOnce ms
modules_once earlier [] passed = tt
modules_once earlier (m ∷ ms) passed = (
  or_right (list_any (is_called m.name) earlier) (comes_again bytes_eq [] m.ports) (front_of (λ st. is_name_twice st ≡ false) (module_statements earlier m) (statements_from (earlier ++ m ∷ []) ms) passed).0,
  modules_once (earlier ++ m ∷ []) ms (rest_of (λ st. is_name_twice st ≡ false) (module_statements earlier m) (statements_from (earlier ++ m ∷ []) ms) passed),
)

pub modules_drive : (s : Source) (earlier ms : List Module) → AllByRecursion (λ st. is_second_driver s st ≡ false) (statements_from earlier ms) → AllByRecursion (DrivesOnce s) ms
modules_drive s earlier [] passed = tt
modules_drive s earlier (m ∷ ms) passed = (
  λ p once. drive_by s earlier m p (front_of (λ st. is_second_driver s st ≡ false) (module_statements earlier m) (statements_from (earlier ++ m ∷ []) ms) passed).1 once,
  modules_drive s (earlier ++ m ∷ []) ms (rest_of (λ st. is_second_driver s st ≡ false) (module_statements earlier m) (statements_from (earlier ++ m ∷ []) ms) passed),
)
  where
    drive_by : (s : Source) (earlier : List Module) (m : Module) (p : ℕ) → AllByRecursion (λ st. is_second_driver s st ≡ false) (items_from earlier m [] m.items) →
        how_many (nat_eq p) (driven_first m) ≤ 1 → how_many (nat_eq p) (driven_first m) + how_many (nat_eq p) (flat_map (drives_in s m) m.items) ≤ 1
    drive_by s earlier m p passed once = let all = items_once s p earlier m [] m.items passed (omega (arith, once)) in omega (arith, all)

-- What a module drives fills its nets: each place once at most, and none past them.
abbrev pub FillsNets : Source → Module → Type 0
FillsNets s m = (n b : ℕ) → (found n b (driven_first m) + found n b (flat_map (drives_in s m) m.items)) + below b n ≤ below (b + length (nets_of m)) n

pub fills_nets : (s : Source) (m : Module) → HasPortsOnce m → DrivesOnce s m → HasPlacedItems s m → FillsNets s m
fills_nets s m ports drive placed = λ n b. (
    let parts = how_many-append (λ at. nat_eq n (b + at)) (driven_first m) (flat_map (drives_in s m) m.items) in
    let all = fills n b (length (nets_of m)) (driven_first m ++ flat_map (drives_in s m) m.items) once none in
    omega (arith, parts, all))
  where
    once : (p : ℕ) → how_many (nat_eq p) (driven_first m ++ flat_map (drives_in s m) m.items) ≤ 1
    once p =
        let parts = how_many-append (nat_eq p) (driven_first m) (flat_map (drives_in s m) m.items) in
        let all = drive p (ports_once m p ports) in
        omega (arith, parts, all)

    none : (p : ℕ) → length (nets_of m) ≤ p → how_many (nat_eq p) (driven_first m ++ flat_map (drives_in s m) m.items) ≡ 0
    none p h =
        let parts = how_many-append (nat_eq p) (driven_first m) (flat_map (drives_in s m) m.items) in
        let a = past_ports m p h in
        let b = past_items s p m m.items h placed in
        omega (arith, parts, a, b)
