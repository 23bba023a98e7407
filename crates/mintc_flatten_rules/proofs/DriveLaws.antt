-- What is driven, place by place.
use Rattle.std.proofs.Common.{◌≡◌, ℕ, ◌+◌, ◌<◌, ◌≤◌, nat_eq, List, [], ◌∷◌, ◌++◌, length, map, take, drop, get_or, filter, reverse, Bool, true, false, not, ◌||◌, cond, Option, Some, None, refl, sym, ap, subst, ◌∙◌, arith, append_assoc}
use Rattle.std.specs.List.{list_any, flat_map, filter_map, cons_option}
use Rattle.std.specs.Option.{option_map, option_map_or, option_to_list}
use Rattle.std.proofs.lemmas.List.{append-nil, map-append, reverse-append, take_more, drop_more, take-append-drop, take_all, length-take-le}
use Rattle.std.proofs.lemmas.List.Concat.{flat_map-append}
use Rattle.std.proofs.lemmas.List.Elements.{filter_map-append}
use Rattle.std.proofs.lemmas.List.Folds.{list_any-append}
use Rattle.mintc_netlist.specs.declared.expression.Piece.{Piece}
use Rattle.mintc_netlist.specs.declared.module.Connection.{Connection}
use Rattle.mintc_netlist.specs.declared.module.Item.{Item}
use Rattle.mintc_netlist.specs.declared.module.Item.TheVariants as item
use Rattle.mintc_netlist.specs.declared.module.Module.{Module}
use Rattle.mintc_netlist.specs.Again.{comes_again}
use Rattle.mintc_netlist.specs.Nets.{Bit, bits_of, range_of, is_output, place_of}
use Rattle.mintc_netlist.specs.Expressions.{piece_bits, expression_bits, expression_places}
use Rattle.mintc_netlist.specs.Connections.{Pin, port_of, expression_at, Wiring, wiring_of, wirings_from, places_in, drives, driven_first}
use Rattle.mintc_netlist_nets.specs.Tables.{bit_place}
use Rattle.mintc_netlist.specs.Statements.{statement_of}
use Rattle.mintc_flatten_hierarchy.specs.declared.bindings.Binding.{Binding}
use Rattle.mintc_flatten_hierarchy.specs.Sources.{Source, pins_at, binding_in, binding_pins}
use Rattle.mintc_flatten_hierarchy.specs.Faults.{drives_in, is_second_driver}
use Rattle.mintc_flatten_binding.proofs.SharedBoolLaws.{or_assoc}
use Rattle.mintc_flatten_rules.specs.Driving.{HasSame, Drives, TakesIn, port_drives, pin_drives, drives_from}

-- Places that come again, by what was seen as a set.
comes_same : (seen seen' xs : List ℕ) → HasSame seen seen' → comes_again nat_eq seen xs ≡ comes_again nat_eq seen' xs
comes_same seen seen' [] same = refl
comes_same seen seen' (x ∷ xs) same =
    ap (λ b. b || comes_again nat_eq (x ∷ seen) xs) (same x) ∙ ap (λ b. list_any (nat_eq x) seen' || b) (comes_same (x ∷ seen) (x ∷ seen') xs (λ n. ap (λ b. nat_eq n x || b) (same n)))

or_swap : (a b c : Bool) → (a || (b || c)) ≡ (b || (a || c))
or_swap true true c = refl
or_swap true false c = refl
or_swap false b c = refl

-- a place in the front of a list or in the middle of it
any_middle : (n x : ℕ) (xs ys : List ℕ) → list_any (nat_eq n) (x ∷ (xs ++ ys)) ≡ list_any (nat_eq n) (xs ++ x ∷ ys)
any_middle n x [] ys = refl
any_middle n x (y ∷ xs) ys = or_swap (nat_eq n x) (nat_eq n y) (list_any (nat_eq n) (xs ++ ys)) ∙ ap (λ b. nat_eq n y || b) (any_middle n x xs ys)

pub comes-append : (seen xs ys : List ℕ) → comes_again nat_eq seen (xs ++ ys) ≡ (comes_again nat_eq seen xs || comes_again nat_eq (seen ++ xs) ys)
comes-append seen [] ys = ap (λ (s : List ℕ). comes_again nat_eq s ys) (sym (append-nil seen))
comes-append seen (x ∷ xs) ys =
    ap (λ b. list_any (nat_eq x) seen || b)
    (comes-append (x ∷ seen) xs ys ∙ ap (λ b. comes_again nat_eq (x ∷ seen) xs || b) (comes_same (x ∷ (seen ++ xs)) (seen ++ x ∷ xs) ys (λ n. any_middle n x seen xs)))
    ∙ sym (or_assoc (list_any (nat_eq x) seen) (comes_again nat_eq (x ∷ seen) xs) (comes_again nat_eq (seen ++ x ∷ xs) ys))

same_front : (xs ys zs : List ℕ) → HasSame xs ys → HasSame (xs ++ zs) (ys ++ zs)
same_front xs ys zs same n = list_any-append (nat_eq n) xs zs ∙ ap (λ b. b || list_any (nat_eq n) zs) (same n) ∙ sym (list_any-append (nat_eq n) ys zs)

-- What is driven after more; and what is driven again stays so.
pub drives_on : (old mid new xs ys : List ℕ) (found : Bool) → Drives old mid xs false → Drives mid new ys found → Drives old new (xs ++ ys) found
drives_on old mid new xs ys found first next =
    let moved : comes_again nat_eq mid ys ≡ comes_again nat_eq (old ++ xs) ys = comes_same mid (old ++ xs) ys (first.marked refl) in
    record {
      again = next.again ∙ moved ∙ ap (λ b. b || comes_again nat_eq (old ++ xs) ys) first.again ∙ sym (comes-append old xs ys);
      marked = λ none n. next.marked none n ∙ same_front mid (old ++ xs) ys (first.marked refl) n ∙ ap (list_any (nat_eq n)) (append_assoc old xs ys);
    }

pub drives_end : (old new xs ys : List ℕ) → Drives old new xs true → Drives old new (xs ++ ys) true
drives_end old new xs ys h = record {
  again = ap (λ b. b || comes_again nat_eq (old ++ xs) ys) h.again ∙ sym (comes-append old xs ys);
  marked = λ none. cc;
}

pub takes_on : (old mid new xs ys : List ℕ) → TakesIn old mid xs → TakesIn mid new ys → TakesIn old new (xs ++ ys)
takes_on old mid new xs ys first next n = next n ∙ same_front mid (old ++ xs) ys first n ∙ ap (list_any (nat_eq n)) (append_assoc old xs ys)

-- Lists of which each element gives some, one more element at a time.
pub flat_push : {X : Type 0} (f : X → List ℕ) (xs : List X) (n : ℕ) (x : X) → n < length xs → x ≡ get_or xs n x → flat_map f (take n xs) ++ f x ≡ flat_map f (take (n + 1) xs)
flat_push {X} f xs n x inside same =
    ap (λ (l : List ℕ). flat_map f (take n xs) ++ l) (sym (append-nil (f x)))
    ∙ sym (flat_map-append f (take n xs) (x ∷ []))
    ∙ sym (ap (flat_map f) (take_more xs n x inside ∙ ap (λ (y : X). take n xs ++ y ∷ []) (sym same)))

-- A step that drives something again, or doesn't.
pub step_again : (old mid new before now after whole : List ℕ) (found : Bool) → whole ≡ (before ++ now) ++ after → Drives old mid before false → Drives mid new now found → found ≡ true → Drives old new whole true
step_again old mid new before now after whole found e first next is =
    subst (λ (l : List ℕ). Drives old new l true) (sym e) (drives_end old new (before ++ now) after (subst (λ b. Drives old new (before ++ now) b) is (drives_on old mid new before now found first next)))

pub step_passed : (old mid new before now more : List ℕ) (found : Bool) → more ≡ before ++ now → Drives old mid before false → Drives mid new now found → found ≡ false → Drives old new more false
step_passed old mid new before now more found e first next is =
    subst (λ (l : List ℕ). Drives old new l false) (sym e) (subst (λ b. Drives old new (before ++ now) b) is (drives_on old mid new before now found first next))

-- Places, one more at a time.
abbrev pub driven_places : List (Option ℕ) → List ℕ
driven_places ps = filter_map (λ (p : Option ℕ). p) ps

one_driven : (p : Option ℕ) → driven_places (p ∷ []) ≡ option_to_list p
one_driven None = refl
one_driven (Some p) = refl

pub places_at : (ps : List (Option ℕ)) (n : ℕ) (d : Option ℕ) → n < length ps → driven_places (take (n + 1) ps) ≡ driven_places (take n ps) ++ option_to_list (get_or ps n d)
places_at ps n d inside =
    ap driven_places (take_more ps n d inside)
    ∙ filter_map-append (λ (p : Option ℕ). p) (take n ps) (get_or ps n d ∷ [])
    ∙ ap (λ (l : List ℕ). driven_places (take n ps) ++ l) (one_driven (get_or ps n d))

pub places_whole : (ps : List (Option ℕ)) (n : ℕ) → driven_places ps ≡ driven_places (take n ps) ++ driven_places (drop n ps)
places_whole ps n = ap driven_places (sym (take-append-drop n ps)) ∙ filter_map-append (λ (p : Option ℕ). p) (take n ps) (drop n ps)

-- Pieces of an expression, from the last.
pub places-append : (m : Module) (xs ys : List Piece) → places_in m (xs ++ ys) ≡ places_in m ys ++ places_in m xs
places-append m xs ys =
    ap (λ (ps : List Piece). driven_places (map (option_map (place_of m)) (flat_map (piece_bits m) ps))) (reverse-append xs ys)
    ∙ ap (λ (bs : List (Option Bit)). driven_places (map (option_map (place_of m)) bs)) (flat_map-append (piece_bits m) (reverse ys) (reverse xs))
    ∙ ap driven_places (map-append (option_map (place_of m)) (expression_bits m ys) (expression_bits m xs))
    ∙ filter_map-append (λ (p : Option ℕ). p) (expression_places m ys) (expression_places m xs)

pub pieces_more : (m : Module) (ps : List Piece) (k : ℕ) (p : Piece) → k < length ps → p ≡ get_or ps k p → places_in m (drop k ps) ≡ places_in m (drop (k + 1) ps) ++ places_in m (p ∷ [])
pieces_more m ps k p inside same =
    ap (places_in m) (drop_more ps k p inside ∙ ap (λ (x : Piece). x ∷ drop (k + 1) ps) (sym same)) ∙ places-append m (p ∷ []) (drop (k + 1) ps)

pub pieces_whole : (m : Module) (ps : List Piece) (k : ℕ) → places_in m ps ≡ places_in m (drop k ps) ++ places_in m (take k ps)
pieces_whole m ps k = ap (places_in m) (sym (take-append-drop k ps)) ∙ places-append m (take k ps) (drop k ps)

-- Pins of an instance.
pub pins-append : (m : Module) (i : Item) (number : ℕ) (xs ys : List Pin) → drives_from m i number (xs ++ ys) ≡ drives_from m i number xs ++ drives_from m i (number + length xs) ys
pins-append m i number [] ys = let e : number + 0 ≡ number = omega arith in ap (λ (n : ℕ). drives_from m i n ys) (sym e)
pins-append m i number (x ∷ xs) ys =
    let e : (number + 1) + length xs ≡ number + length (x ∷ xs) = omega arith in
    ap (λ (l : List ℕ). pin_drives m i number x ++ l) (pins-append m i (number + 1) xs ys ∙ ap (λ (n : ℕ). drives_from m i (number + 1) xs ++ drives_from m i n ys) e)
    ∙ sym (append_assoc (pin_drives m i number x) (drives_from m i (number + 1) xs) (drives_from m i (number + length (x ∷ xs)) ys))

item_wirings : (m : Module) (p : Pin) (e : Option (List Piece)) (rest : List Wiring) →
    flat_map (λ (w : Wiring). places_in m w.pieces) (filter (λ (w : Wiring). w.pin.output) (cons_option (option_map (wiring_of p) e) rest))
    ≡ cond p.output (option_map_or (places_in m) e []) [] ++ flat_map (λ (w : Wiring). places_in m w.pieces) (filter (λ (w : Wiring). w.pin.output) rest)
item_wirings m p None rest = by_output p.output
  where
    by_output : (b : Bool) → flat_map (λ (w : Wiring). places_in m w.pieces) (filter (λ (w : Wiring). w.pin.output) rest) ≡ cond b [] [] ++ flat_map (λ (w : Wiring). places_in m w.pieces) (filter (λ (w : Wiring). w.pin.output) rest)
    by_output true = refl
    by_output false = refl
item_wirings m p (Some pieces) rest = by_output p.output
  where
    by_output : (b : Bool) →
        flat_map (λ (w : Wiring). places_in m w.pieces) (cond b (wiring_of p pieces ∷ filter (λ (w : Wiring). w.pin.output) rest) (filter (λ (w : Wiring). w.pin.output) rest))
        ≡ cond b (places_in m pieces) [] ++ flat_map (λ (w : Wiring). places_in m w.pieces) (filter (λ (w : Wiring). w.pin.output) rest)
    by_output true = refl
    by_output false = refl

instance_drives : (m : Module) (i : Item) (number : ℕ) (pins : List Pin) →
    drives_from m i number pins ≡ flat_map (λ (w : Wiring). places_in m w.pieces) (filter (λ (w : Wiring). w.pin.output) (wirings_from number i pins))
instance_drives m i number [] = refl
instance_drives m i number (p ∷ pins) =
    ap (λ (l : List ℕ). pin_drives m i number p ++ l) (instance_drives m i (number + 1) pins) ∙ sym (item_wirings m p (expression_at i number p.name) (wirings_from (number + 1) i pins))

pub pins_more : (m : Module) (i : Item) (pins : List Pin) (n : ℕ) (d : Pin) → n < length pins → drives_from m i 0 (take (n + 1) pins) ≡ drives_from m i 0 (take n pins) ++ pin_drives m i n (get_or pins n d)
pins_more m i pins n d inside =
    let most : n ≤ length pins = omega arith in
    let long : 0 + length (take n pins) ≡ length (take n pins) = omega arith in
    ap (drives_from m i 0) (take_more pins n d inside)
    ∙ pins-append m i 0 (take n pins) (get_or pins n d ∷ [])
    ∙ ap (λ (l : List ℕ). drives_from m i 0 (take n pins) ++ l)
    (append-nil (pin_drives m i (0 + length (take n pins)) (get_or pins n d)) ∙ ap (λ (k : ℕ). pin_drives m i k (get_or pins n d)) (long ∙ length-take-le n pins most))

pub pins_whole : (m : Module) (i : Item) (pins : List Pin) (n : ℕ) → drives_from m i 0 pins ≡ drives_from m i 0 (take n pins) ++ drives_from m i (0 + length (take n pins)) (drop n pins)
pins_whole m i pins n = ap (drives_from m i 0) (sym (take-append-drop n pins)) ∙ pins-append m i 0 (take n pins) (drop n pins)

pub item_drives : (s : Source) (m : Module) (i : Item) (t : Binding) (entry : ℕ) (cell name : List ℕ) (by_name : Bool) (cs : List Connection) → i ≡ item.Instance entry cell name by_name cs → t ≡ binding_in s i →
    drives_from m i 0 (binding_pins s t) ≡ drives_in s m i
item_drives s m i t entry cell name by_name cs is binding =
    ap (λ (u : Binding). drives_from m i 0 (binding_pins s u)) binding
    ∙ instance_drives m i 0 (pins_at s i)
    ∙ ap (λ (j : Item). flat_map (λ (w : Wiring). places_in m w.pieces) (filter (λ (w : Wiring). w.pin.output) (wirings_from 0 j (pins_at s i)))) is
    ∙ ap (drives m (pins_at s i)) (sym is)

-- Items of a module.
pub item_driven : (s : Source) (m : Module) (before : List Item) (i : Item) (driven : List ℕ) (found : Bool) → HasSame driven (driven_first m ++ flat_map (drives_in s m) before) →
    found ≡ comes_again nat_eq driven (drives_in s m i) → is_second_driver s (statement_of [] m before (Some i)) ≡ found
item_driven s m before i driven found same is = sym (is ∙ comes_same driven (driven_first m ++ flat_map (drives_in s m) before) (drives_in s m i) same)

pub items_more : (s : Source) (m : Module) (is : List Item) (n : ℕ) (i : Item) (old new : List ℕ) → n < length is → i ≡ get_or is n i → HasSame old (driven_first m ++ flat_map (drives_in s m) (take n is)) →
    TakesIn old new (drives_in s m i) → HasSame new (driven_first m ++ flat_map (drives_in s m) (take (n + 1) is))
items_more s m is n i old new inside same h more place =
    more place
    ∙ same_front old (driven_first m ++ flat_map (drives_in s m) (take n is)) (drives_in s m i) h place
    ∙ ap (list_any (nat_eq place)) (append_assoc (driven_first m) (flat_map (drives_in s m) (take n is)) (drives_in s m i) ∙ ap (λ (l : List ℕ). driven_first m ++ l) (flat_push (drives_in s m) is n i inside same))

-- Input ports.
input_by : (m : Module) (name : List ℕ) (b : Bool) (rest : List ℕ) (pins : List Pin) → rest ≡ flat_map (λ (p : Pin). p.places) pins →
    cond b [] (map (place_of m) (bits_of name (range_of m name))) ++ rest ≡ flat_map (λ (p : Pin). p.places) (cond (not b) (port_of m name ∷ pins) pins)
input_by m name true rest pins h = h
input_by m name false rest pins h = ap (λ (l : List ℕ). map (place_of m) (bits_of name (range_of m name)) ++ l) h

pub inputs_are : (m : Module) (names : List (List ℕ)) → flat_map (port_drives m) names ≡ flat_map (λ (p : Pin). p.places) (filter (λ (p : Pin). not p.output) (map (port_of m) names))
inputs_are m [] = refl
inputs_are m (name ∷ names) = input_by m name (is_output m name) (flat_map (port_drives m) names) (filter (λ (p : Pin). not p.output) (map (port_of m) names)) (inputs_are m names)

pub inputs_end : (m : Module) (driven : List ℕ) (n : ℕ) → length m.ports ≤ n → HasSame driven (flat_map (port_drives m) (take n m.ports)) → HasSame driven (driven_first m)
inputs_end m driven n past h place =
    h place ∙ ap (λ (names : List (List ℕ)). list_any (nat_eq place) (flat_map (port_drives m) names)) (take_all n m.ports past) ∙ ap (list_any (nat_eq place)) (inputs_are m m.ports)

pub port_places : (m : Module) (bits : List Bit) → driven_places (map (bit_place m) bits) ≡ map (place_of m) bits
port_places m [] = refl
port_places m (b ∷ bits) = ap (λ (l : List ℕ). place_of m b ∷ l) (port_places m bits)
