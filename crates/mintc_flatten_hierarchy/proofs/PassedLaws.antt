-- What is known of the statements of a netlist that isn't refused: the bits of their expressions are bits of their module's nets.
use Rattle.std.proofs.Common.{◌≡◌, ℕ, zero, suc, ◌+◌, ◌<◌, nat_eq, Bool, true, false, not, ◌&&◌, ◌||◌, cond, is_some, List, [], ◌∷◌, ◌++◌, map, length, filter, slice_index_or, bytes_eq, position, Option, Some, None, IfSome, find, slice_get, refl, sym, ap, ◌∙◌, subst, arith}
use Rattle.std.specs.List.{All, AllByRecursion, flat_map, filter_map, cons_option, list_any, position_or_len}
use Rattle.std.specs.Option.{option_map, option_and_then}
use Rattle.std.proofs.lemmas.List.Elements.{All-nil, All-cons, All-weaker}
use Rattle.std.proofs.lemmas.Slice.Eq.{bytes_eq-Decides}
use Rattle.std.proofs.lemmas.List.{length-map}
use Rattle.mintc_cells.specs.declared.cell.Cell.{Cell}
use Rattle.mintc_cells.specs.Entries.{number_of as cell_number}
use Rattle.mintc_netlist.specs.declared.expression.Piece.{Piece}
use Rattle.mintc_netlist.specs.declared.module.Connection.{Connection}
use Rattle.mintc_netlist.specs.declared.module.Item.{Item}
use Rattle.mintc_netlist.specs.declared.module.Item.TheVariants as item
use Rattle.mintc_netlist.specs.declared.module.Module.{Module}
use Rattle.mintc_text_names.specs.Names.{is_among}
use Rattle.mintc_netlist.specs.Nets.{net_names, piece_names, mentions}
use Rattle.mintc_netlist.specs.Expressions.{expression_places, width_of, selects_fit, has_constant}
use Rattle.mintc_netlist.specs.Connections.{Pin, is_to, connection_at, expression_at, Wiring, wiring_of, wirings_from, wirings_of}
use Rattle.mintc_netlist.specs.Statements.{statement_of, items_from, module_statements, statements_from, statements_of, number_of, first_at_fault}
use Rattle.mintc_netlist_nets.proofs.SharedTableLaws.{found_place}
use Rattle.mintc_flatten_hierarchy.specs.declared.bindings.Binding.{Binding}
use Rattle.mintc_flatten_hierarchy.specs.declared.bindings.Binding.TheVariants.{OfCell, OfModule, OfNothing}
use Rattle.mintc_flatten_hierarchy.specs.Sources.{Source, no_module, module_at, is_stub, modules_of, is_called, chosen, binding_in, pins_at}
use Rattle.mintc_flatten_hierarchy.specs.Faults.{is_wired_badly, is_misfit}
use Rattle.mintc_flatten_hierarchy.proofs.PlacedLaws.{IsPlace, IsKnown, all_left, all_right, expression_placed, firsts-among}
use Rattle.mintc_flatten_hierarchy.proofs.SharedOrderedLaws.{KnowsBinding}

-- The bits of an item's expressions have places: both sides of an assign, and what an instance connects.
abbrev pub IsPlacedWiring : Module → Wiring → Type 0
IsPlacedWiring m w = All (IsPlace m) (expression_places m w.pieces)

abbrev pub IsPlacedItem : Source → Module → Item → Type 0
IsPlacedItem s m (item.Assign entry left right) = All (IsPlace m) (expression_places m left) × All (IsPlace m) (expression_places m right)
IsPlacedItem s m (item.Instance entry cell name by_name connections) =
    AllByRecursion (IsPlacedWiring m) (wirings_of (item.Instance entry cell name by_name connections) (pins_at s (item.Instance entry cell name by_name connections)))
IsPlacedItem s m i = Unit {0}

-- the names of a module's ports and statements are names of its nets
or_true : (b c : Bool) → c ≡ true → (b || c) ≡ true
or_true true c h = refl
or_true false c h = h

own_by : (b c : Bool) → b ≡ true → (b || c) ≡ true
own_by true c h = refl
own_by false c h = cc

self_among : (xs : List (List ℕ)) → All (λ n. is_among n xs ≡ true) xs
self_among [] = All-nil (λ n. is_among n [] ≡ true)
self_among (x ∷ xs) =
    All-cons (λ n. is_among n (x ∷ xs) ≡ true) x xs (own_by (bytes_eq x x) (is_among x xs) ((bytes_eq-Decides x x).1 refl))
    (All-weaker (λ n. is_among n xs ≡ true) (λ n. is_among n (x ∷ xs) ≡ true) (λ n h. or_true (bytes_eq n x) (is_among n xs) h) xs (self_among xs))

abbrev all_names : Module → List (List ℕ)
all_names m = m.ports ++ flat_map net_names m.items ++ flat_map mentions m.items

known_names : (m : Module) → All (IsKnown m) (all_names m)
known_names m = All-weaker (λ n. is_among n (all_names m) ≡ true) (IsKnown m) (λ n h. firsts-among n [] (all_names m) h refl) (all_names m) (self_among (all_names m))

pub ports_known : (m : Module) → All (IsKnown m) m.ports
ports_known m = all_left (IsKnown m) m.ports (flat_map net_names m.items) (all_left (IsKnown m) (m.ports ++ flat_map net_names m.items) (flat_map mentions m.items) (known_names m))

all_in : {X Y : Type 0} (P : Y → Type 0) (f : X → List Y) (xs : List X) → All P (flat_map f xs) → AllByRecursion (λ x. All P (f x)) xs
all_in P f [] h = tt
all_in P f (x ∷ xs) h = (all_left P (f x) (flat_map f xs) h, all_in P f xs (all_right P (f x) (flat_map f xs) h))

mentions_known : (m : Module) → AllByRecursion (λ i. All (IsKnown m) (mentions i)) m.items
mentions_known m = all_in (IsKnown m) mentions m.items (all_right (IsKnown m) (m.ports ++ flat_map net_names m.items) (flat_map mentions m.items) (known_names m))

-- the names of what an instance connects
abbrev HasKnown : Module → Connection → Type 0
HasKnown m c = IfSome c.expr (λ e. All (IsKnown m) (flat_map piece_names e))

connected_by : (m : Module) (e : Option (List Piece)) (es : List (List Piece)) → All (IsKnown m) (flat_map (flat_map piece_names) (cons_option e es)) →
    IfSome e (λ e. All (IsKnown m) (flat_map piece_names e)) × All (IsKnown m) (flat_map (flat_map piece_names) es)
connected_by m None es h = (tt, h)
connected_by m (Some e) es h = (all_left (IsKnown m) (flat_map piece_names e) (flat_map (flat_map piece_names) es) h, all_right (IsKnown m) (flat_map piece_names e) (flat_map (flat_map piece_names) es) h)

connections_known : (m : Module) (cs : List Connection) → All (IsKnown m) (flat_map (flat_map piece_names) (filter_map (λ (c : Connection). c.expr) cs)) → AllByRecursion (HasKnown m) cs
connections_known m [] h = tt
connections_known m (c ∷ cs) h =
    let both = connected_by m c.expr (filter_map (λ (c : Connection). c.expr) cs) h in
    (both.0, connections_known m cs both.1)

find_by : {X : Type 0} (P : X → Type 0) (b : Bool) (x : X) (rest : Option X) → P x → IfSome rest P → IfSome (cond b (Some x) rest) P
find_by P true x rest h k = h
find_by P false x rest h k = k

find_all : {X : Type 0} (P : X → Type 0) (test : X → Bool) (xs : List X) → AllByRecursion P xs → IfSome (find test xs) P
find_all P test [] h = tt
find_all P test (x ∷ xs) h = find_by P (test x) x (find test xs) h.0 (find_all P test xs h.1)

get_all : {X : Type 0} (P : X → Type 0) (xs : List X) (n : ℕ) → AllByRecursion P xs → IfSome (slice_get xs n) P
get_all P [] n h = tt
get_all P (x ∷ xs) zero h = h.0
get_all P (x ∷ xs) (suc n) h = get_all P xs n h.1

connection_known : (m : Module) (by_name : Bool) (cs : List Connection) (n : ℕ) (name : List ℕ) → AllByRecursion (HasKnown m) cs → IfSome (connection_at by_name cs n name) (HasKnown m)
connection_known m true cs n name h = find_all (HasKnown m) (is_to name) cs h
connection_known m false cs n name h = get_all (HasKnown m) cs n h

expression_known : (m : Module) (o : Option Connection) → IfSome o (HasKnown m) → IfSome (option_and_then (λ (c : Connection). c.expr) o) (λ e. All (IsKnown m) (flat_map piece_names e))
expression_known m None h = tt
expression_known m (Some c) h = h

abbrev IsKnownWiring : Module → Wiring → Type 0
IsKnownWiring m w = All (IsKnown m) (flat_map piece_names w.pieces)

wiring_known : (m : Module) (pin : Pin) (o : Option (List Piece)) (ws : List Wiring) → IfSome o (λ e. All (IsKnown m) (flat_map piece_names e)) → AllByRecursion (IsKnownWiring m) ws →
    AllByRecursion (IsKnownWiring m) (cons_option (option_map (wiring_of pin) o) ws)
wiring_known m pin None ws h k = k
wiring_known m pin (Some e) ws h k = (h, k)

wirings_known : (m : Module) (entry : ℕ) (cell name : List ℕ) (by_name : Bool) (cs : List Connection) (n : ℕ) (pins : List Pin) → AllByRecursion (HasKnown m) cs →
    AllByRecursion (IsKnownWiring m) (wirings_from n (item.Instance entry cell name by_name cs) pins)
wirings_known m entry cell name by_name cs n [] h = tt
wirings_known m entry cell name by_name cs n (pin ∷ pins) h =
    wiring_known m pin (expression_at (item.Instance entry cell name by_name cs) n pin.name) (wirings_from (n + 1) (item.Instance entry cell name by_name cs) pins)
    (expression_known m (connection_at by_name cs n pin.name) (connection_known m by_name cs n pin.name h))
    (wirings_known m entry cell name by_name cs (n + 1) pins h)

-- what fits has places
fits_by : (a b c : Bool) → ((not a || b) || c) ≡ false → a ≡ true
fits_by true b c h = refl
fits_by false b c h = cc

or_left : (a b : Bool) → (a || b) ≡ false → a ≡ false
or_left true b h = h
or_left false b h = refl

pub or_right : (a b : Bool) → (a || b) ≡ false → b ≡ false
or_right true b h = cc
or_right false b h = h

and_left : (b c : Bool) → (b && c) ≡ true → b ≡ true
and_left true c h = refl
and_left false c h = cc

and_right : (b c : Bool) → (b && c) ≡ true → c ≡ true
and_right true c h = h
and_right false c h = cc

wirings_placed : (m : Module) (ws : List Wiring) → AllByRecursion (IsKnownWiring m) ws → list_any (is_wired_badly m) ws ≡ false → AllByRecursion (IsPlacedWiring m) ws
wirings_placed m [] known well = tt
wirings_placed m (w ∷ ws) known well = (
  expression_placed m w.pieces known.0
      (fits_by (selects_fit m w.pieces) (not (nat_eq (width_of m w.pieces) (length w.pin.places))) (w.pin.output && has_constant w.pieces) (or_left (is_wired_badly m w) (list_any (is_wired_badly m) ws) well)),
  wirings_placed m ws known.1 (or_right (is_wired_badly m w) (list_any (is_wired_badly m) ws) well),
)

item_placed : (s : Source) (earlier : List Module) (m : Module) (before : List Item) (i : Item) → All (IsKnown m) (mentions i) → is_misfit s (statement_of earlier m before (Some i)) ≡ false → IsPlacedItem s m i
item_placed s earlier m before (item.Assign entry left right) known fits =
    let both = fits_by (selects_fit m left && selects_fit m right) (not (nat_eq (width_of m left) (width_of m right))) (has_constant left) fits in
    let names = all_right (IsKnown m) (flat_map piece_names left) (flat_map piece_names right ++ []) known in (
      expression_placed m left (all_left (IsKnown m) (flat_map piece_names left) (flat_map piece_names right ++ []) known) (and_left (selects_fit m left) (selects_fit m right) both),
      expression_placed m right (all_left (IsKnown m) (flat_map piece_names right) [] names) (and_right (selects_fit m left) (selects_fit m right) both),
    )
item_placed s earlier m before (item.Instance entry cell name by_name cs) known fits =
    wirings_placed m (wirings_of (item.Instance entry cell name by_name cs) (pins_at s (item.Instance entry cell name by_name cs)))
    (wirings_known m entry cell name by_name cs 0 (pins_at s (item.Instance entry cell name by_name cs)) (connections_known m cs known)) fits
item_placed s earlier m before (item.Port entry output span names) known fits = tt
item_placed s earlier m before (item.Wire entry span names) known fits = tt

-- where no statement is at fault, each passes its test
none_by : {X : Type 0} (b : Bool) (x : X) (rest : Option X) → cond b (Some x) rest ≡ None → (b ≡ false) × (rest ≡ None)
none_by true x rest h = cc
none_by false x rest h = (refl, h)

pub none_found : {X : Type 0} (test : X → Bool) (xs : List X) → find test xs ≡ None → AllByRecursion (λ x. test x ≡ false) xs
none_found test [] h = tt
none_found test (x ∷ xs) h = let both = none_by (test x) x (find test xs) h in (both.0, none_found test xs both.1)

none_mapped : {X Y : Type 0} (f : X → Y) (o : Option X) → option_map f o ≡ None → o ≡ None
none_mapped f None h = refl
none_mapped f (Some x) h = cc

pub front_of : {X : Type 0} (P : X → Type 0) (xs ys : List X) → AllByRecursion P (xs ++ ys) → AllByRecursion P xs
front_of P [] ys h = tt
front_of P (x ∷ xs) ys h = (h.0, front_of P xs ys h.1)

pub rest_of : {X : Type 0} (P : X → Type 0) (xs ys : List X) → AllByRecursion P (xs ++ ys) → AllByRecursion P ys
rest_of P [] ys h = h
rest_of P (x ∷ xs) ys h = rest_of P xs ys h.1

items_placed : (s : Source) (earlier : List Module) (m : Module) (before is : List Item) → AllByRecursion (λ i. All (IsKnown m) (mentions i)) is →
    AllByRecursion (λ st. is_misfit s st ≡ false) (items_from earlier m before is) → AllByRecursion (IsPlacedItem s m) is
items_placed s earlier m before [] known passed = tt
items_placed s earlier m before (i ∷ is) known passed = (item_placed s earlier m before i known.0 passed.0, items_placed s earlier m (before ++ i ∷ []) is known.1 passed.1)

abbrev pub HasPlacedItems : Source → Module → Type 0
HasPlacedItems s m = AllByRecursion (IsPlacedItem s m) m.items

modules_placed : (s : Source) (earlier ms : List Module) → AllByRecursion (λ st. is_misfit s st ≡ false) (statements_from earlier ms) → AllByRecursion (HasPlacedItems s) ms
modules_placed s earlier [] passed = tt
modules_placed s earlier (m ∷ ms) passed = (
  items_placed s earlier m [] m.items (mentions_known m) (front_of (λ st. is_misfit s st ≡ false) (module_statements earlier m) (statements_from (earlier ++ m ∷ []) ms) passed).1,
  modules_placed s (earlier ++ m ∷ []) ms (rest_of (λ st. is_misfit s st ≡ false) (module_statements earlier m) (statements_from (earlier ++ m ∷ []) ms) passed),
)

pub all_placed : (s : Source) → first_at_fault (is_misfit s) (modules_of s) ≡ None → AllByRecursion (HasPlacedItems s) (modules_of s)
all_placed s h = modules_placed s [] (modules_of s) (none_found (is_misfit s) (statements_of (modules_of s)) (none_mapped number_of (find (is_misfit s) (statements_of (modules_of s))) h))

-- a module that is there and is no stub is among those that are judged
kept_by : {X : Type 0} (P : X → Type 0) (b : Bool) (x : X) (rest : List X) → AllByRecursion P (cond b (x ∷ rest) rest) → (b ≡ true → P x) × AllByRecursion P rest
kept_by P true x rest h = (λ e. h.0, h.1)
kept_by P false x rest h = (λ e. cc, h)

pub kept_at : {X : Type 0} (P : X → Type 0) (test : X → Bool) (xs : List X) (k : ℕ) (d : X) → AllByRecursion P (filter test xs) → k < length xs → test (slice_index_or xs k d) ≡ true → P (slice_index_or xs k d)
kept_at P test [] k d h inside passes = absurd (omega arith)
kept_at P test (x ∷ xs) zero d h inside passes = (kept_by P (test x) x (filter test xs) h).0 passes
kept_at P test (x ∷ xs) (suc k) d h inside passes = kept_at P test xs k d (kept_by P (test x) x (filter test xs) h).1 (omega arith) passes

pub not_stub : (b : Bool) → b ≡ false → not b ≡ true
not_stub true h = cc
not_stub false h = refl

pub live_placed : (s : Source) (k : ℕ) → AllByRecursion (HasPlacedItems s) (modules_of s) → k < length s.modules → is_stub s (module_at s k) ≡ false → HasPlacedItems s (module_at s k)
live_placed s k all inside live = kept_at (HasPlacedItems s) (λ m. not (is_stub s m)) s.modules k no_module all inside (not_stub (is_stub s (module_at s k)) live)

-- What an instance is of is there; and if it is a module, it is no stub.
found_by : {X : Type 0} (test : X → Bool) (x : X) (xs : List X) (d : X) (b : Bool) → test x ≡ b → cond (not b) (1 + position_or_len test xs) 0 < suc (length xs) →
    (b ≡ false → position_or_len test xs < length xs → test (slice_index_or xs (position_or_len test xs) d) ≡ true) → test (slice_index_or (x ∷ xs) (cond (not b) (1 + position_or_len test xs) 0) d) ≡ true
found_by test x xs d true e inside more = e
found_by test x xs d false e inside more =
    let next : suc (position_or_len test xs) ≡ 1 + position_or_len test xs = omega arith in
    subst (λ (n : ℕ). test (slice_index_or (x ∷ xs) n d) ≡ true) next (more refl (omega arith))

pub at_found : {X : Type 0} (test : X → Bool) (xs : List X) (d : X) → position_or_len test xs < length xs → test (slice_index_or xs (position_or_len test xs) d) ≡ true
at_found test [] d inside = absurd (omega arith)
at_found test (x ∷ xs) d inside = found_by test x xs d (test x) refl inside (λ e k. at_found test xs d k)

pub position_passes : {X : Type 0} (test : X → Bool) (xs : List X) (d : X) (p : ℕ) → position test xs ≡ Some p → (p < length xs) × (test (slice_index_or xs p d) ≡ true)
position_passes test xs d p h =
    let here = found_place test xs p h in
    (here.1, subst (λ (k : ℕ). test (slice_index_or xs k d) ≡ true) here.0 (at_found test xs d (subst (λ (k : ℕ). k < length xs) (sym here.0) here.1)))

abbrev pub IsThere : Source → Binding → Type 0
IsThere s (OfCell n) = n < length s.cells
IsThere s (OfModule k) = (k < length s.modules) × (is_stub s (module_at s k) ≡ false)
IsThere s OfNothing = Unit {0}

cell_there : (s : Source) (name : List ℕ) (n : ℕ) → cell_number s.cells name ≡ Some n → n < length s.cells
cell_there s name n h =
    let place = found_place (bytes_eq name) (map (λ (e : List ℕ × Cell). e.0) s.cells) n h in
    let count = length-map s.cells (λ (e : List ℕ × Cell). e.0) in
    omega (arith, place.1, count)

chosen_there : (s : Source) (name : List ℕ) (cell number : Option ℕ) → cell_number s.cells name ≡ cell → position (is_called name) s.modules ≡ number → IsThere s (chosen cell number)
chosen_there s name (Some n) number h k = cell_there s name n h
chosen_there s name None (Some k) h e =
    let found = position_passes (is_called name) s.modules no_module k e in
    let same : name ≡ (module_at s k).name = (bytes_eq-Decides name (module_at s k).name).0 found.1 in
    (found.0, ap is_some (ap (cell_number s.cells) (sym same) ∙ h))
chosen_there s name None None h e = tt

pub binding_there : (s : Source) (i : Item) → IsThere s (binding_in s i)
binding_there s (item.Instance entry cell name by_name connections) = chosen_there s cell (cell_number s.cells cell) (position (is_called cell) s.modules) refl refl
binding_there s (item.Port entry output span names) = tt
binding_there s (item.Wire entry span names) = tt
binding_there s (item.Assign entry left right) = tt

knows_by : (s : Source) (t : Binding) → AllByRecursion (HasPlacedItems s) (modules_of s) → IsThere s t → KnowsBinding s (IsPlacedItem s) t
knows_by s (OfCell n) all there = tt
knows_by s (OfModule k) all there = live_placed s k all there.0 there.1
knows_by s OfNothing all there = tt

pub knows_binding : (s : Source) (i : Item) → AllByRecursion (HasPlacedItems s) (modules_of s) → KnowsBinding s (IsPlacedItem s) (binding_in s i)
knows_binding s i all = knows_by s (binding_in s i) all (binding_there s i)
