-- Whatever a hierarchy names is there.
use Rattle.std.proofs.Common.{◌≡◌, ℕ, zero, suc, ◌+◌, ◌<◌, ◌≤◌, nat_lt, min, Bool, true, false, not, ◌&&◌, cond, List, [], ◌∷◌, ◌++◌, map, length, filter, slice_index_or, Option, Some, None, IfSome, find, refl, sym, ap, ◌∙◌, subst, arith, length-append, add-zero}
use Rattle.std.specs.List.{All, AllByRecursion, flat_map, filter_map, cons_option, range_with_len}
use Rattle.std.specs.Option.{option_map, option_or}
use Rattle.std.proofs.lemmas.Bool.Decides.{nat_tests}
use Rattle.std.proofs.lemmas.List.{length-map}
use Rattle.std.proofs.lemmas.List.Elements.{All-nil, All-cons, All-head, All-tail, All-weaker, All-append, All-map, All-from_recursion}
use Rattle.mintc_text.specs.Limits.{AreLimits}
use Rattle.mintc_text.specs.Refusals.{over_limit}
use Rattle.mintc_text.specs.declared.limits.Most.{Most}
use Rattle.mintc_text.specs.declared.limits.TheConstants.{MOST_DEPTH, MOST_INNER, MOST_LEAVES, MOST_SCOPES, MOST_TOLD}
use Rattle.mintc_text.specs.declared.refusals.Kind.{Kind}
use Rattle.mintc_text.specs.declared.refusals.Kind.TheVariants as kind
use Rattle.mintc_text.specs.declared.refusals.Refusal.{Refusal}
use Rattle.mintc_text.specs.declared.refusals.Refusal.TheVariants as refusal
use Rattle.mintc_cells.specs.Rules.{pins, inputs_of, outputs_of}
use Rattle.mintc_netlist.specs.declared.expression.Span.{Span}
use Rattle.mintc_netlist.specs.declared.expression.Piece.{Piece}
use Rattle.mintc_netlist.specs.declared.module.Item.{Item}
use Rattle.mintc_netlist.specs.declared.module.Item.TheVariants as item
use Rattle.mintc_netlist.specs.declared.module.Module.{Module}
use Rattle.mintc_netlist.specs.declared.module.Netlist.{Netlist}
use Rattle.mintc_netlist.specs.Nets.{bits_of, range_of, nets_of, place_of}
use Rattle.mintc_netlist.specs.Expressions.{expression_places}
use Rattle.mintc_netlist.specs.Connections.{Pin, port_of, expression_at, Wiring, wiring_of, wirings_from, wirings_of}
use Rattle.mintc_netlist.specs.Statements.{first_at_fault}
use Rattle.mintc_netlist_nets.proofs.SharedSpanLaws.{bits_count, index_count}
use Rattle.mintc_flatten_hierarchy.specs.declared.hierarchy.Scope.{Scope}
use Rattle.mintc_flatten_hierarchy.specs.declared.hierarchy.Inner.TheVariants as inner
use Rattle.mintc_flatten_hierarchy.specs.declared.hierarchy.Join.{Join}
use Rattle.mintc_flatten_hierarchy.specs.declared.hierarchy.Hierarchy.{Hierarchy}
use Rattle.mintc_flatten_hierarchy.specs.declared.bindings.Binding.{Binding}
use Rattle.mintc_flatten_hierarchy.specs.declared.bindings.Binding.TheVariants.{OfCell, OfModule, OfNothing}
use Rattle.mintc_flatten_hierarchy.specs.Sources.{Source, source_of, module_at, cell_at, is_stub, modules_of, binding_in, pins_from, pins_of, binding_pins, pins_at}
use Rattle.mintc_flatten_hierarchy.specs.Faults.{is_misfit}
use Rattle.mintc_flatten_hierarchy.specs.Walks.{Counts, counts, plus, size_of, Place, Step, walk, depth}
use Rattle.mintc_flatten_hierarchy.specs.Hierarchies.{scope_in, leaf_in, net_of, nets_in, inner_in, numbers_of, join_of, joined, wiring_joins, joins_in, top_scope, top_port, hierarchy_of}
use Rattle.mintc_flatten_hierarchy.specs.Refusals.{may_be_top, tops_of, limit_refusal, name_twice_refusal, no_module_refusal, recursive_refusal, no_pin_refusal, width_refusal, two_drivers_refusal, statements_refusal, top_refusal, IsHierarchy}
use Rattle.mintc_flatten_hierarchy.specs.Shape.{CellTable, IsLeaf, IsPort, IsInner, IsJoin, IsFlattened}
use Rattle.mintc_flatten_hierarchy.proofs.PlacedLaws.{IsPlace, IsKnown, name_placed}
use Rattle.mintc_flatten_hierarchy.proofs.SharedOrderedLaws.{AreInOrder, walk_in_order, IsWithin, all_within, IsPlacedStep, walk_placed}
use Rattle.mintc_flatten_hierarchy.proofs.SharedLengthLaws.{scopes-length, leaves-length, inner-length, length-pins_of}
use Rattle.mintc_flatten_hierarchy.proofs.PassedLaws.{IsPlacedWiring, IsPlacedItem, HasPlacedItems, ports_known, all_placed, live_placed, IsThere, binding_there, knows_binding}

-- scopes, of which each comes after its parent
abbrev FollowParents : ℕ → List Scope → Type 0
FollowParents m [] = Unit {0}
FollowParents m (x ∷ xs) = (x.parent < m) × FollowParents (m + 1) xs

scopes_turn : (n : ℕ) (step : Step) (t : Binding) (rest : List Scope) (s : Source) → step.place.scope < n → FollowParents (n + (size_of s t).scopes) rest → FollowParents n (cons_option (scope_in step t) rest)
scopes_turn n step (OfCell c) rest s before h = subst (λ (m : ℕ). FollowParents m rest) (add-zero n) h
scopes_turn n step (OfModule k) rest s before h = (before, h)
scopes_turn n step OfNothing rest s before h = subst (λ (m : ℕ). FollowParents m rest) (add-zero n) h

scopes_follow : (s : Source) (before : Counts) (steps : List Step) → AreInOrder s before steps → AllByRecursion (IsPlacedStep (IsPlacedItem s)) steps →
    FollowParents before.scopes (filter_map (λ (step : Step). scope_in step (binding_in s step.item)) steps)
scopes_follow s before [] ordered placed = tt
scopes_follow s before (x ∷ xs) ordered placed =
    scopes_turn before.scopes x (binding_in s x.item) (filter_map (λ (step : Step). scope_in step (binding_in s step.item)) xs) s
    (subst (λ (c : Counts). x.place.scope < c.scopes) ordered.0 placed.0.scope)
    (scopes_follow s (plus before (size_of s (binding_in s x.item))) xs ordered.1 placed.1)

parent_at : (m : ℕ) (xs : List Scope) (k : ℕ) (d : Scope) → FollowParents m xs → k < length xs → (slice_index_or xs k d).parent < m + k
parent_at m [] k d h inside = absurd (omega arith)
parent_at m (x ∷ xs) zero d h inside = omega (arith, h.0)
parent_at m (x ∷ xs) (suc k) d h inside = let more = parent_at (m + 1) xs k d h.1 (omega arith) in omega (arith, more)

parents_by : (top : Scope) (xs : List Scope) → FollowParents 1 xs → (n : ℕ) (d : Scope) → 1 ≤ n → n < length (top ∷ xs) → (slice_index_or (top ∷ xs) n d).parent < n
parents_by top xs h zero d some inside = absurd (omega arith)
parents_by top xs h (suc n) d some inside = let less = parent_at 1 xs n d h (omega arith) in omega (arith, less)

-- leaves
pub all_recursion : {X : Type 0} (P : X → Type 0) (o : Option X) (xs : List X) → IfSome o P → AllByRecursion P xs → AllByRecursion P (cons_option o xs)
all_recursion P None xs h k = k
all_recursion P (Some x) xs h k = (h, k)

leaf_by : (s : Source) (h : Hierarchy) (step : Step) (t : Binding) → IsThere s t → step.place.scope < length h.scopes → step.before.inner + (size_of s t).inner ≤ length h.inner → IfSome (leaf_in step t) (IsLeaf s.cells h)
leaf_by s h step (OfCell n) there scope inside = record { scope = scope; cell = there; within = omega (arith, inside, length-pins_of (cell_at s n)) }
leaf_by s h step (OfModule k) there scope inside = tt
leaf_by s h step OfNothing there scope inside = tt

abbrev counts_of : Hierarchy → Counts
counts_of h = counts (length h.scopes) (length h.leaves) (length h.inner)

leaves_in : (s : Source) (h : Hierarchy) (steps : List Step) → AllByRecursion (IsWithin s (counts_of h)) steps → AllByRecursion (IsPlacedStep (IsPlacedItem s)) steps →
    AllByRecursion (IsLeaf s.cells h) (filter_map (λ (step : Step). leaf_in step (binding_in s step.item)) steps)
leaves_in s h [] within placed = tt
leaves_in s h (x ∷ xs) within placed =
    all_recursion (IsLeaf s.cells h) (leaf_in x (binding_in s x.item)) (filter_map (λ (step : Step). leaf_in step (binding_in s step.item)) xs)
    (leaf_by s h x (binding_in s x.item) (binding_there s x.item) (omega (arith, placed.0.scope, within.0.scopes)) within.0.inner)
    (leaves_in s h xs within.1 placed.1)

-- inner bits
inner_by : (s : Source) (h : Hierarchy) (step : Step) (t : Binding) → step.before.scopes + (size_of s t).scopes ≤ length h.scopes → step.before.leaves + (size_of s t).leaves ≤ length h.leaves → All (IsInner h) (inner_in s step t)
inner_by s h step (OfCell n) a b = All-map (IsInner h) (λ name. inner.Pin step.before.leaves name) (pins (cell_at s n)) (λ k d inside. omega (arith, b))
inner_by s h step (OfModule k) a b = All-map (IsInner h) (net_of step.before.scopes) (nets_of (module_at s k)) (λ k d inside. omega (arith, a))
inner_by s h step OfNothing a b = All-nil (IsInner h)

inner_all : (s : Source) (h : Hierarchy) (steps : List Step) → AllByRecursion (IsWithin s (counts_of h)) steps → All (IsInner h) (flat_map (λ (step : Step). inner_in s step (binding_in s step.item)) steps)
inner_all s h [] within = All-nil (IsInner h)
inner_all s h (x ∷ xs) within =
    All-append (IsInner h) (inner_in s x (binding_in s x.item)) (flat_map (λ (step : Step). inner_in s step (binding_in s step.item)) xs)
    (inner_by s h x (binding_in s x.item) within.0.scopes within.0.leaves) (inner_all s h xs within.1)

-- joins
abbrev IsBelow : ℕ → Option ℕ → Type 0
IsBelow n o = IfSome o (λ at. at < n)

abbrev HasEnds : ℕ → Join → Type 0
HasEnds n j = (j.from < n) × (j.to < n)

joined_below : (n : ℕ) (froms tos : List (Option ℕ)) → All (IsBelow n) froms → All (IsBelow n) tos → All (HasEnds n) (joined froms tos)
joined_below n [] [] h k = All-nil (HasEnds n)
joined_below n [] (to ∷ tos) h k = All-nil (HasEnds n)
joined_below n (None ∷ froms) [] h k = All-nil (HasEnds n)
joined_below n (Some from ∷ froms) [] h k = All-nil (HasEnds n)
joined_below n (None ∷ froms) (to ∷ tos) h k = joined_below n froms tos (All-tail (IsBelow n) None froms h) (All-tail (IsBelow n) to tos k)
joined_below n (Some from ∷ froms) (None ∷ tos) h k = joined_below n froms tos (All-tail (IsBelow n) (Some from) froms h) (All-tail (IsBelow n) None tos k)
joined_below n (Some from ∷ froms) (Some to ∷ tos) h k =
    All-cons (HasEnds n) (join_of from to) (joined froms tos) (All-head (IsBelow n) (Some from) froms h, All-head (IsBelow n) (Some to) tos k)
    (joined_below n froms tos (All-tail (IsBelow n) (Some from) froms h) (All-tail (IsBelow n) (Some to) tos k))

number_below : (m : Module) (first n : ℕ) (o : Option ℕ) → first + length (nets_of m) ≤ n → IsPlace m o → IsBelow n (option_map (λ at. first + at) o)
number_below m first n None room h = tt
number_below m first n (Some at) room h = omega (arith, room, h)

numbers_below : (place : Place) (pieces : List Piece) (n : ℕ) → place.first + length (nets_of place.module_nets) ≤ n → All (IsPlace place.module_nets) (expression_places place.module_nets pieces) → All (IsBelow n) (numbers_of place pieces)
numbers_below place pieces n room h =
    All-map (IsBelow n) (option_map (λ at. place.first + at)) (expression_places place.module_nets pieces)
    (All-weaker (IsPlace place.module_nets) (λ o. IsBelow n (option_map (λ at. place.first + at) o)) (λ o k. number_below place.module_nets place.first n o room k) (expression_places place.module_nets pieces) h)

-- the places of a binding's pins
abbrev pub HasPlaces : ℕ → Pin → Type 0
HasPlaces size p = All (λ at. at < size) p.places

one_place : (at size : ℕ) → at < size → All (λ x. x < size) (at ∷ [])
one_place at size h = All-cons (λ x. x < size) at [] h (All-nil (λ x. x < size))

all_append : {X : Type 0} (P : X → Type 0) (xs ys : List X) → AllByRecursion P xs → AllByRecursion P ys → AllByRecursion P (xs ++ ys)
all_append P [] ys h k = k
all_append P (x ∷ xs) ys h k = (h.0, all_append P xs ys h.1 k)

pins_placed : (output : Bool) (size number : ℕ) (names : List (List ℕ)) → number + length names ≤ size → AllByRecursion (HasPlaces size) (pins_from output number names)
pins_placed output size number [] room = tt
pins_placed output size number (name ∷ names) room = (one_place number size (omega (arith, room)), pins_placed output size (number + 1) names (omega (arith, room)))

pub ports_placed : (m : Module) (names : List (List ℕ)) → All (IsKnown m) names → AllByRecursion (HasPlaces (length (nets_of m))) (map (port_of m) names)
ports_placed m [] h = tt
ports_placed m (name ∷ names) h =
    (All-map (λ at. at < length (nets_of m)) (place_of m) (bits_of name (range_of m name)) (name_placed m name (All-head (IsKnown m) name names h)), ports_placed m names (All-tail (IsKnown m) name names h))

binding_placed : (s : Source) (t : Binding) → AllByRecursion (HasPlaces (size_of s t).inner) (binding_pins s t)
binding_placed s (OfCell n) =
    let cell = cell_at s n in
    let count = length-append (inputs_of cell) (outputs_of cell) in
    let same = length-pins_of cell in
    all_append (HasPlaces (length (pins_of cell))) (pins_from false 0 (inputs_of cell)) (pins_from true (length (inputs_of cell)) (outputs_of cell))
    (pins_placed false (length (pins_of cell)) 0 (inputs_of cell) (omega (arith, count, same))) (pins_placed true (length (pins_of cell)) (length (inputs_of cell)) (outputs_of cell) (omega (arith, count, same)))
binding_placed s (OfModule k) = ports_placed (module_at s k) (module_at s k).ports (ports_known (module_at s k))
binding_placed s OfNothing = tt

wired_by : (size : ℕ) (pin : Pin) (o : Option (List Piece)) (ws : List Wiring) → HasPlaces size pin → AllByRecursion (λ (w : Wiring). HasPlaces size w.pin) ws → AllByRecursion (λ (w : Wiring). HasPlaces size w.pin) (cons_option (option_map (wiring_of pin) o) ws)
wired_by size pin None ws h k = k
wired_by size pin (Some e) ws h k = (h, k)

wired_places : (size n : ℕ) (i : Item) (pins : List Pin) → AllByRecursion (HasPlaces size) pins → AllByRecursion (λ (w : Wiring). HasPlaces size w.pin) (wirings_from n i pins)
wired_places size n i [] h = tt
wired_places size n i (pin ∷ pins) h = wired_by size pin (expression_at i n pin.name) (wirings_from (n + 1) i pins) h.0 (wired_places size (n + 1) i pins h.1)

pin_numbers : (first size n : ℕ) (places : List ℕ) → first + size ≤ n → All (λ at. at < size) places → All (IsBelow n) (map (λ at. Some (first + at)) places)
pin_numbers first size n places room h = All-map (IsBelow n) (λ at. Some (first + at)) places (All-weaker (λ at. at < size) (λ at. first + at < n) (λ at k. omega (arith, room, k)) places h)

wiring_by : (place : Place) (first size n : ℕ) (w : Wiring) (output : Bool) → place.first + length (nets_of place.module_nets) ≤ n → first + size ≤ n → IsPlacedWiring place.module_nets w → HasPlaces size w.pin →
    All (HasEnds n) (cond output (joined (map (λ at. Some (first + at)) w.pin.places) (numbers_of place w.pieces)) (joined (numbers_of place w.pieces) (map (λ at. Some (first + at)) w.pin.places)))
wiring_by place first size n w true a b h k = joined_below n (map (λ at. Some (first + at)) w.pin.places) (numbers_of place w.pieces) (pin_numbers first size n w.pin.places b k) (numbers_below place w.pieces n a h)
wiring_by place first size n w false a b h k = joined_below n (numbers_of place w.pieces) (map (λ at. Some (first + at)) w.pin.places) (numbers_below place w.pieces n a h) (pin_numbers first size n w.pin.places b k)

wirings_below : (place : Place) (first size n : ℕ) (ws : List Wiring) → place.first + length (nets_of place.module_nets) ≤ n → first + size ≤ n → AllByRecursion (IsPlacedWiring place.module_nets) ws →
    AllByRecursion (λ (w : Wiring). HasPlaces size w.pin) ws → All (HasEnds n) (flat_map (wiring_joins place first) ws)
wirings_below place first size n [] a b h k = All-nil (HasEnds n)
wirings_below place first size n (w ∷ ws) a b h k =
    All-append (HasEnds n) (wiring_joins place first w) (flat_map (wiring_joins place first) ws) (wiring_by place first size n w w.pin.output a b h.0 k.0) (wirings_below place first size n ws a b h.1 k.1)

no_wirings : (number : ℕ) (i : Item) (pins : List Pin) → ((n : ℕ) (name : List ℕ) → expression_at i n name ≡ None) → wirings_from number i pins ≡ []
no_wirings number i [] none = refl
no_wirings number i (pin ∷ pins) none =
    ap (λ (o : Option (List Piece)). cons_option (option_map (wiring_of pin) o) (wirings_from (number + 1) i pins)) (none number pin.name) ∙ no_wirings (number + 1) i pins none

step_joins : (s : Source) (step : Step) (n : ℕ) (i : Item) → step.place.first + length (nets_of step.place.module_nets) ≤ n → step.before.inner + (size_of s (binding_in s i)).inner ≤ n → IsPlacedItem s step.place.module_nets i → All (HasEnds n) (joins_in s step i)
step_joins s step n (item.Assign entry left right) a b known =
    joined_below n (numbers_of step.place right) (numbers_of step.place left) (numbers_below step.place right n a known.1) (numbers_below step.place left n a known.0)
step_joins s step n (item.Instance entry cell name by_name connections) a b known =
    let i = item.Instance entry cell name by_name connections in
    wirings_below step.place step.before.inner (size_of s (binding_in s (item.Instance entry cell name by_name connections))).inner n
    (wirings_of (item.Instance entry cell name by_name connections) (pins_at s (item.Instance entry cell name by_name connections))) a b known
    (wired_places (size_of s (binding_in s (item.Instance entry cell name by_name connections))).inner 0 (item.Instance entry cell name by_name connections)
    (pins_at s (item.Instance entry cell name by_name connections)) (binding_placed s (binding_in s (item.Instance entry cell name by_name connections))))
step_joins s step n (item.Port entry output span names) a b known = All-nil (HasEnds n)
step_joins s step n (item.Wire entry span names) a b known = All-nil (HasEnds n)

joins_all : (s : Source) (h : Hierarchy) (steps : List Step) → AllByRecursion (IsWithin s (counts_of h)) steps → AllByRecursion (IsPlacedStep (IsPlacedItem s)) steps →
    All (IsJoin h) (flat_map (λ (step : Step). joins_in s step step.item) steps)
joins_all s h [] within placed = All-nil (IsJoin h)
joins_all s h (x ∷ xs) within placed =
    All-append (IsJoin h) (joins_in s x x.item) (flat_map (λ (step : Step). joins_in s step step.item) xs)
    (step_joins s x (length h.inner) x.item (omega (arith, placed.0.nets, within.0.inner)) within.0.inner placed.0.known) (joins_all s h xs within.1 placed.1)

-- ports of the top
some_bit : (name : List ℕ) (span : Option Span) → 1 ≤ length (bits_of name span)
some_bit name None = omega arith
some_bit name (Some s) = omega (arith, bits_count name (Some s), index_count s)

ports_all : (h : Hierarchy) (m : Module) (names : List (List ℕ)) → length (nets_of m) ≤ length h.inner → All (IsKnown m) names → All (IsPort h) (map top_port (map (port_of m) names))
ports_all h m [] room known = All-nil (IsPort h)
ports_all h m (name ∷ names) room known =
    All-cons (IsPort h) (top_port (port_of m name)) (map top_port (map (port_of m) names))
    (record {
      within = All-weaker (λ b. b < length (nets_of m)) (λ b. b < length h.inner) (λ b k. omega (arith, k, room)) (map (place_of m) (bits_of name (range_of m name)))
          (All-map (λ b. b < length (nets_of m)) (place_of m) (bits_of name (range_of m name)) (name_placed m name (All-head (IsKnown m) name names known)));
      some = omega (arith, length-map (bits_of name (range_of m name)) (place_of m), some_bit name (range_of m name));
    })
    (ports_all h m names room (All-tail (IsKnown m) name names known))

-- The one top is there and is no stub.
below : (a n most : ℕ) → a + n ≤ most → AllByRecursion (λ x. x < most) (range_with_len a n)
below a zero most h = tt
below a (suc n) most h = let next : a + 1 + n ≤ most = omega arith in (omega arith, below (a + 1) n most next)

kept_by : (p : ℕ → Bool) (most x k : ℕ) (xs ys : List ℕ) (b : Bool) → p x ≡ b → x < most → (filter p xs ≡ k ∷ ys → (p k ≡ true) × (k < most)) → cond b (x ∷ filter p xs) (filter p xs) ≡ k ∷ ys → (p k ≡ true) × (k < most)
kept_by p most x k xs ys true e inside more h = let same : x ≡ k = cc in (ap p (sym same) ∙ e, subst (λ (n : ℕ). n < most) same inside)
kept_by p most x k xs ys false e inside more h = more h

kept_head : (p : ℕ → Bool) (most k : ℕ) (xs ys : List ℕ) → AllByRecursion (λ x. x < most) xs → filter p xs ≡ k ∷ ys → (p k ≡ true) × (k < most)
kept_head p most k [] ys all h = cc
kept_head p most k (x ∷ xs) ys all h = kept_by p most x k xs ys (p x) refl all.0 (kept_head p most k xs ys all.1) h

live_by : (a b : Bool) → (not a && b) ≡ true → a ≡ false
live_by true b h = cc
live_by false b h = refl

pub top_there : (s : Source) (top : Option (List ℕ)) (k : ℕ) → tops_of s top ≡ k ∷ [] → k < length s.modules
top_there s top k h = (kept_head (λ k. not (is_stub s (module_at s k)) && may_be_top s top k) (length s.modules) k (range_with_len 0 (length s.modules)) [] (below 0 (length s.modules) (length s.modules) (omega arith)) h).1

pub top_live : (s : Source) (top : Option (List ℕ)) (k : ℕ) → tops_of s top ≡ k ∷ [] → is_stub s (module_at s k) ≡ false
top_live s top k h = live_by (is_stub s (module_at s k)) (may_be_top s top k) (kept_head (λ k. not (is_stub s (module_at s k)) && may_be_top s top k) (length s.modules) k (range_with_len 0 (length s.modules)) [] (below 0 (length s.modules) (length s.modules) (omega arith)) h).0

-- limits that aren't passed
not_over : (k : Kind) (q m : ℕ) (rest : List (Kind × ℕ × ℕ)) (b : Bool) → nat_lt m q ≡ b →
    option_map (λ (x : Kind × ℕ × ℕ). refusal.Limit x.0 (min x.1 MOST_TOLD)) (cond b (Some (k, q, m)) (find (λ (x : Kind × ℕ × ℕ). nat_lt x.2 x.1) rest)) ≡ None → (q ≤ m) × (over_limit rest ≡ None)
not_over k q m rest true e h = cc
not_over k q m rest false e h = (grind (arith, nat_tests), h)

limit_kept : (k : Kind) (q m : ℕ) (rest : List (Kind × ℕ × ℕ)) → over_limit ((k, q, m) ∷ rest) ≡ None → (q ≤ m) × (over_limit rest ≡ None)
limit_kept k q m rest h = not_over k q m rest (nat_lt m q) refl h

pub record AreKept (h : Hierarchy) : Type 0 where
  pub scopes : length h.scopes ≤ MOST_SCOPES
  pub leaves : length h.leaves ≤ MOST_LEAVES
  pub inner : length h.inner ≤ MOST_INNER

limits_kept : (most : Most) → AreLimits most → (s : Source) (top : ℕ) → limit_refusal most s top ≡ None → AreKept (hierarchy_of s top)
limits_kept most limits s top none =
    let a = limit_kept kind.Scopes (length (hierarchy_of s top).scopes) most.scopes ((kind.Depth, depth s (length s.modules) top, MOST_DEPTH) ∷ (kind.Leaves, length (hierarchy_of s top).leaves, most.leaves) ∷ (kind.Inner, length (hierarchy_of s top).inner, most.inner) ∷ []) none in
    let b = limit_kept kind.Depth (depth s (length s.modules) top) MOST_DEPTH ((kind.Leaves, length (hierarchy_of s top).leaves, most.leaves) ∷ (kind.Inner, length (hierarchy_of s top).inner, most.inner) ∷ []) a.1 in
    let c = limit_kept kind.Leaves (length (hierarchy_of s top).leaves) most.leaves ((kind.Inner, length (hierarchy_of s top).inner, most.inner) ∷ []) b.1 in
    let d = limit_kept kind.Inner (length (hierarchy_of s top).inner) most.inner [] c.1 in
    record { scopes = omega (arith, a.0, limits.scopes); leaves = omega (arith, c.0, limits.leaves); inner = omega (arith, d.0, limits.inner) }

-- nothing refuses: no width, and no limit of the top
pub none_left : (a b : Option Refusal) → option_or a b ≡ None → (a ≡ None) × (b ≡ None)
none_left None b h = (refl, h)
none_left (Some r) b h = cc

no_width : (s : Source) → statements_refusal s ≡ None → width_refusal s ≡ None
no_width s h =
    let a = none_left (name_twice_refusal s) (option_or (no_module_refusal s) (option_or (recursive_refusal s) (option_or (no_pin_refusal s) (option_or (width_refusal s) (two_drivers_refusal s))))) h in
    let b = none_left (no_module_refusal s) (option_or (recursive_refusal s) (option_or (no_pin_refusal s) (option_or (width_refusal s) (two_drivers_refusal s)))) a.1 in
    let c = none_left (recursive_refusal s) (option_or (no_pin_refusal s) (option_or (width_refusal s) (two_drivers_refusal s))) b.1 in
    let d = none_left (no_pin_refusal s) (option_or (width_refusal s) (two_drivers_refusal s)) c.1 in
    (none_left (width_refusal s) (two_drivers_refusal s) d.1).0

pub mapped_none : {X Y : Type 0} (f : X → Y) (o : Option X) → option_map f o ≡ None → o ≡ None
mapped_none f None h = refl
mapped_none f (Some x) h = cc

-- all of it, of the hierarchy from a top
shape_of : (s : Source) (top : ℕ) → AllByRecursion (HasPlacedItems s) (modules_of s) → top < length s.modules → is_stub s (module_at s top) ≡ false → AreKept (hierarchy_of s top) → IsFlattened s.cells (hierarchy_of s top)
shape_of s top passed inside live kept =
    let h = hierarchy_of s top in
    let steps = walk s top in
    let ordered = walk_in_order s top in
    let placed = walk_placed s (IsPlacedItem s) top (λ i. knows_binding s i passed) (live_placed s top passed inside live) in
    let a = scopes-length s (walk s top) in
    let b = leaves-length s (walk s top) in
    let c = inner-length s (walk s top) in
    let d = length-append (nets_in 0 (module_at s top)) (flat_map (λ (step : Step). inner_in s step (binding_in s step.item)) (walk s top)) in
    let e = length-map (nets_of (module_at s top)) (net_of 0) in
    let within = all_within s (counts_of (hierarchy_of s top)) (plus (counts 0 0 0) (size_of s (OfModule top))) (walk s top) ordered (omega (arith, a)) (omega (arith, b)) (omega (arith, c, d, e)) in
    record {
      some_scope = omega arith;
      few_scopes = kept.scopes;
      parents = parents_by (top_scope top) (filter_map (λ (step : Step). scope_in step (binding_in s step.item)) (walk s top))
          (scopes_follow s (plus (counts 0 0 0) (size_of s (OfModule top))) (walk s top) ordered placed);
      few_leaves = kept.leaves;
      each_leaf = All-from_recursion (IsLeaf s.cells (hierarchy_of s top)) (filter_map (λ (step : Step). leaf_in step (binding_in s step.item)) (walk s top)) (leaves_in s (hierarchy_of s top) (walk s top) within placed);
      each_inner = All-append (IsInner (hierarchy_of s top)) (nets_in 0 (module_at s top)) (flat_map (λ (step : Step). inner_in s step (binding_in s step.item)) (walk s top))
          (All-map (IsInner (hierarchy_of s top)) (net_of 0) (nets_of (module_at s top)) (λ k d inside. omega arith)) (inner_all s (hierarchy_of s top) (walk s top) within);
      few_bits = kept.inner;
      each_join = joins_all s (hierarchy_of s top) (walk s top) within placed;
      each_port = ports_all (hierarchy_of s top) (module_at s top) (module_at s top).ports (omega (arith, d, e)) (ports_known (module_at s top));
    }

shape_by : (most : Most) → AreLimits most → (s : Source) (top : Option (List ℕ)) (h : Hierarchy) → IsHierarchy most s top h → IsFlattened s.cells h
shape_by most limits s top h is =
    let both = none_left (statements_refusal s) (top_refusal most s (tops_of s top)) is.unrefused in
    let passed = all_placed s (mapped_none refusal.Width (first_at_fault (is_misfit s) (modules_of s)) (no_width s both.0)) in
    let unlimited : limit_refusal most s is.number ≡ None = sym (ap (top_refusal most s) is.one_top) ∙ both.1 in
    subst (λ (g : Hierarchy). IsFlattened s.cells g) (sym is.is_of_top)
    (shape_of s is.number passed (top_there s top is.number is.one_top) (top_live s top is.number is.one_top) (limits_kept most limits s is.number unlimited))

pub in_shape : (most : Most) → AreLimits most → (cells : CellTable) (netlist : Netlist) (top : Option (List ℕ)) (h : Hierarchy) → IsHierarchy most (source_of cells netlist.modules) top h → IsFlattened cells h
in_shape most limits cells netlist top h is = shape_by most limits (source_of cells netlist.modules) top h is
