-- Whether names come again depends on what was seen as a set.
use Rattle.std.proofs.Common.{◌≡◌, ℕ, ◌+◌, ◌<◌, List, [], ◌∷◌, ◌++◌, length, take, drop, get_or, Bool, true, false, not, ◌||◌, cond, bytes_eq, Option, Some, None, refl, sym, ap, ◌∙◌, append_assoc}
use Rattle.std.specs.List.{cons_option, flat_map}
use Rattle.std.proofs.lemmas.List.{drop_more, take_more, append-nil}
use Rattle.std.proofs.lemmas.List.Elements.{filter_map-append}
use Rattle.mintc_text_names.specs.Names.{is_among, with_name}
use Rattle.mintc_netlist.specs.Again.{comes_again}
use Rattle.mintc_netlist.specs.Connections.{named_pins}
use Rattle.mintc_netlist.specs.declared.module.Connection.{Connection}
use Rattle.mintc_netlist.specs.declared.module.Item.{Item}
use Rattle.mintc_netlist.specs.Nets.{port_names, net_names}
use Rattle.mintc_flatten_hierarchy.specs.Faults.{instance_names, is_name_twice}
use Rattle.std.proofs.lemmas.List.Concat.{flat_map-append}
use Rattle.mintc_netlist.specs.declared.module.Item.TheVariants as item
use Rattle.mintc_netlist.specs.declared.module.Module.{Module}
use Rattle.mintc_netlist.specs.Ordinary.{entry_of}
use Rattle.mintc_netlist.specs.Statements.{statement_of}
use Rattle.mintc_flatten_rules.specs.Firsts.{first_after}
use Rattle.mintc_flatten_rules.proofs.FirstLaws.{first_after-turn}
use Rattle.mintc_flatten_rules.specs.Twice.{AddsPin, IsSeen, gives_item, is_pin_among}
use Rattle.mintc_netlist_nets.proofs.SharedNetLaws.{among_last}

comes_same : (seen seen' xs : List (List ℕ)) → ((name : List ℕ) → is_among name seen ≡ is_among name seen') → comes_again bytes_eq seen xs ≡ comes_again bytes_eq seen' xs
comes_same seen seen' [] same = refl
comes_same seen seen' (x ∷ xs) same =
    ap (λ b. b || comes_again bytes_eq (x ∷ seen) xs) (same x) ∙ ap (λ b. is_among x seen' || b) (comes_same (x ∷ seen) (x ∷ seen') xs (λ n. ap (λ b. bytes_eq n x || b) (same n)))

pub comes_last : (seen : List (List ℕ)) (x : List ℕ) (xs : List (List ℕ)) → comes_again bytes_eq (x ∷ seen) xs ≡ comes_again bytes_eq (seen ++ x ∷ []) xs
comes_last seen x xs = comes_same (x ∷ seen) (seen ++ x ∷ []) xs (λ n. sym (among_last n x seen))

not_true : (b : Bool) → true ≡ not b → b ≡ false
not_true true h = h
not_true false h = refl

not_false : (b : Bool) → false ≡ not b → b ≡ true
not_false true h = refl
not_false false h = h

-- one name is new, and one is not
pub new_one : (seen news : List (List ℕ)) (x : List ℕ) (xs : List (List ℕ)) → true ≡ not (is_among x seen) → news ≡ with_name seen x → (news ≡ seen ++ x ∷ []) × (comes_again bytes_eq seen (x ∷ xs) ≡ comes_again bytes_eq news xs)
new_one seen news x xs fresh put =
    let absent : is_among x seen ≡ false = not_true (is_among x seen) fresh in
    let last : news ≡ seen ++ x ∷ [] = put ∙ ap (λ b. cond b seen (seen ++ x ∷ [])) absent in
    (last, ap (λ b. b || comes_again bytes_eq (x ∷ seen) xs) absent ∙ comes_last seen x xs ∙ ap (λ (s : List (List ℕ)). comes_again bytes_eq s xs) (sym last))

pub old_one : (seen : List (List ℕ)) (x : List ℕ) (xs : List (List ℕ)) → false ≡ not (is_among x seen) → comes_again bytes_eq seen (x ∷ xs) ≡ true
old_one seen x xs there = ap (λ b. b || comes_again bytes_eq (x ∷ seen) xs) (not_false (is_among x seen) there)

pub step_new : (start seen news : List (List ℕ)) (more : List (List ℕ)) (n : ℕ) (x : List ℕ) → n < length more → x ≡ get_or more n x → seen ≡ start ++ take n more →
    comes_again bytes_eq seen (drop n more) ≡ comes_again bytes_eq start more → true ≡ not (is_among x seen) → news ≡ with_name seen x →
    (news ≡ start ++ take (n + 1) more) × (comes_again bytes_eq news (drop (n + 1) more) ≡ comes_again bytes_eq start more)
step_new start seen news more n x inside is front left fresh put =
    let here : drop n more ≡ x ∷ drop (n + 1) more = drop_more more n x inside ∙ ap (λ (y : List ℕ). y ∷ drop (n + 1) more) (sym is) in
    let longer : take (n + 1) more ≡ take n more ++ x ∷ [] = take_more more n x inside ∙ ap (λ (y : List ℕ). take n more ++ y ∷ []) (sym is) in
    let both = new_one seen news x (drop (n + 1) more) fresh put in (
      both.0 ∙ ap (λ (s : List (List ℕ)). s ++ x ∷ []) front ∙ append_assoc start (take n more) (x ∷ []) ∙ ap (λ (s : List (List ℕ)). start ++ s) (sym longer),
      sym both.1 ∙ ap (comes_again bytes_eq seen) (sym here) ∙ left,
    )

pub step_old : (start seen : List (List ℕ)) (more : List (List ℕ)) (n : ℕ) (x : List ℕ) → n < length more → x ≡ get_or more n x →
    comes_again bytes_eq seen (drop n more) ≡ comes_again bytes_eq start more → false ≡ not (is_among x seen) → true ≡ comes_again bytes_eq start more
step_old start seen more n x inside is left there =
    let here : drop n more ≡ x ∷ drop (n + 1) more = drop_more more n x inside ∙ ap (λ (y : List ℕ). y ∷ drop (n + 1) more) (sym is) in
    sym (sym left ∙ ap (comes_again bytes_eq seen) here ∙ old_one seen x (drop (n + 1) more) there)

-- one connection on
pub pin_step : (pin : Option (List ℕ)) (seen news rest : List (List ℕ)) (fresh : Bool) → AddsPin seen news pin fresh → fresh ≡ true → comes_again bytes_eq seen (cons_option pin rest) ≡ comes_again bytes_eq news rest
pin_step None seen news rest fresh h new = ap (λ (s : List (List ℕ)). comes_again bytes_eq s rest) (sym h.1)
pin_step (Some pin) seen news rest fresh h new = (new_one seen news pin rest (sym new ∙ h.0) h.1).1

pin_on : (pin : Option (List ℕ)) (seen rest : List (List ℕ)) → comes_again bytes_eq seen (cons_option pin rest) ≡ (is_pin_among seen pin || comes_again bytes_eq (seen ++ cons_option pin []) rest)
pin_on None seen rest = ap (λ (s : List (List ℕ)). comes_again bytes_eq s rest) (sym (append-nil seen))
pin_on (Some pin) seen rest = ap (λ b. is_among pin seen || b) (comes_last seen pin rest)

-- one connection on, where those before it are looked through
pub pin_turn : (cs : List Connection) (n : ℕ) (x : Connection) (b : Bool) → n < length cs → x ≡ get_or cs n x → b ≡ is_pin_among (named_pins (take n cs)) x.pin →
    comes_again bytes_eq (named_pins (take n cs)) (named_pins (drop n cs)) ≡ comes_again bytes_eq [] (named_pins cs) →
    (b || comes_again bytes_eq (named_pins (take (n + 1) cs)) (named_pins (drop (n + 1) cs))) ≡ comes_again bytes_eq [] (named_pins cs)
pin_turn cs n x b inside is e left =
    let seen = named_pins (take n cs) in
    let rest = named_pins (drop (n + 1) cs) in
    let here : drop n cs ≡ x ∷ drop (n + 1) cs = drop_more cs n x inside ∙ ap (λ (y : Connection). y ∷ drop (n + 1) cs) (sym is) in
    let longer : take (n + 1) cs ≡ take n cs ++ x ∷ [] = take_more cs n x inside ∙ ap (λ (y : Connection). take n cs ++ y ∷ []) (sym is) in
    let more : named_pins (take (n + 1) cs) ≡ seen ++ cons_option x.pin [] = ap named_pins longer ∙ filter_map-append (λ (c : Connection). c.pin) (take n cs) (x ∷ []) in
    ap (λ (c : Bool). c || comes_again bytes_eq (named_pins (take (n + 1) cs)) rest) e
    ∙ ap (λ (s : List (List ℕ)). is_pin_among seen x.pin || comes_again bytes_eq s rest) more
    ∙ sym (pin_on x.pin seen rest)
    ∙ sym (ap (λ (l : List Connection). comes_again bytes_eq seen (named_pins l)) here)
    ∙ left

-- what is kept after one more item
pub seen_step : (p n q p' n' q' : List (List ℕ)) (before : List Item) (i : Item) → IsSeen p n q before → p' ≡ p ++ port_names i → n' ≡ n ++ net_names i → q' ≡ q ++ instance_names i → IsSeen p' n' q' (before ++ i ∷ [])
seen_step p n q p' n' q' before i h a b c = record {
  ports = one_more port_names p p' before i h.ports a;
  nets = one_more net_names n n' before i h.nets b;
  instances = one_more instance_names q q' before i h.instances c;
}
  where
    one_more : (f : Item → List (List ℕ)) (x x' : List (List ℕ)) (before : List Item) (i : Item) → x ≡ flat_map f before → x' ≡ x ++ f i → x' ≡ flat_map f (before ++ i ∷ [])
    one_more f x x' before i h e =
        e ∙ ap (λ (y : List (List ℕ)). y ++ f i) h ∙ ap (λ (y : List (List ℕ)). flat_map f before ++ y) (sym (append-nil (f i))) ∙ sym (flat_map-append f before (i ∷ []))

same_item : (m : Module) (before : List Item) (i : Item) → gives_item before i ≡ is_name_twice (statement_of [] m before (Some i))
same_item m before (item.Port entry output span names) = refl
same_item m before (item.Wire entry span names) = refl
same_item m before (item.Assign entry left right) = refl
same_item m before (item.Instance entry cell name by_name connections) = refl

-- one item on, or the first at fault
item_turn : (m : Module) (is : List Item) (n : ℕ) (i : Item) (b : Bool) → n < length is → i ≡ get_or is n i → b ≡ gives_item (take n is) i →
    first_after is_name_twice m (take n is) (drop n is) ≡ cond b (Some (entry_of i)) (first_after is_name_twice m (take (n + 1) is) (drop (n + 1) is))
item_turn m is n i b inside at e =
    first_after-turn is_name_twice m is n i inside (sym at)
    ∙ ap (λ (c : Bool). cond c (Some (entry_of i)) (first_after is_name_twice m (take (n + 1) is) (drop (n + 1) is))) (sym (e ∙ same_item m (take n is) i))

pub item_passed : (m : Module) (is : List Item) (n : ℕ) (i : Item) (b : Bool) → n < length is → i ≡ get_or is n i → b ≡ gives_item (take n is) i → b ≡ false →
    first_after is_name_twice m (take n is) (drop n is) ≡ first_after is_name_twice m [] is → first_after is_name_twice m (take (n + 1) is) (drop (n + 1) is) ≡ first_after is_name_twice m [] is
item_passed m is n i b inside at e passed left =
    sym (item_turn m is n i b inside at e ∙ ap (λ (c : Bool). cond c (Some (entry_of i)) (first_after is_name_twice m (take (n + 1) is) (drop (n + 1) is))) passed) ∙ left

pub item_found : (m : Module) (is : List Item) (n : ℕ) (i : Item) (b : Bool) (entry : ℕ) → n < length is → i ≡ get_or is n i → b ≡ gives_item (take n is) i → b ≡ true → entry ≡ entry_of i →
    first_after is_name_twice m (take n is) (drop n is) ≡ first_after is_name_twice m [] is → Some entry ≡ first_after is_name_twice m [] is
item_found m is n i b entry inside at e there number left =
    ap Some number ∙ sym (item_turn m is n i b inside at e ∙ ap (λ (c : Bool). cond c (Some (entry_of i)) (first_after is_name_twice m (take (n + 1) is) (drop (n + 1) is))) there) ∙ left
