-- The keys of each table of a TOML document ascend.
use Rattle.std.proofs.Common.{◌≡◌, ℕ, zero, suc, Ordering, Less, Equal, Greater, nat_cmp, is_lt, Bool, true, false, cond, ◌&&◌, ◌||◌, ◌==◌, List, [], ◌∷◌, ◌++◌, length, drop, slice_index, Option, Some, None, option_map, option_and_then, refl, ap, ◌∙◌, subst, arith}
use Rattle.std.proofs.lemmas.Bool.{and_parts, and_from}
use Rattle.std.proofs.lemmas.Cmp.{nat_list_cmp_total}
use Rattle.std.specs.Cmp.Lexicographic.{slice_cmp}
use Rattle.std.specs.Ordering.{match_ordering, ordering_reverse}
use Rattle.toml.specs.Data.{Data, string, array, table, Items, item, no_items, push_item, Members, member, no_members, same_key, get_member}
use Rattle.toml.specs.Data.{is_before, is_sorted, items_are_sorted, members_are_sorted}
use Rattle.toml.specs.Tables.{implicit, dotted, header, Node, Nodes, no_nodes, node, value, open_table, open_array, close, close_node, get_node, insert, replace, Edit, header_node, dot_node, by_header, by_dot}
use Rattle.toml.specs.Tables.{along_header, along_dots, Definition, key_value, std_table, array_table, Expression, new_node, redefine, at_found, at_key, put, Document, define_as, define}
use Rattle.toml.proofs.Blanks.{skip_space}
use Rattle.toml.specs.Parse.{after_element, after_byte, key_equals, keyval, items, members, scalar_data, atom, val, header_key, expression, line, lines, skip_bom, parse_document}

-- a key, and what is read of a text: a value and the text after it
abbrev Key : Type 0
Key = List (List ℕ) × List ℕ

abbrev Read : Type 0 → Type 0
Read A = Option (A × List ℕ)

-- ---- what gives a value
bind_some : {A B : Type 0} (o : Option A) (f : A → Option B) (y : B) → option_and_then f o ≡ Some y → (x : A) × (o ≡ Some x) × (f x ≡ Some y)
bind_some None f y e = absurd (cc e)
bind_some (Some x) f y e = (x, refl, e)

map_some : {A B : Type 0} (o : Option A) (f : A → B) (y : B) → option_map f o ≡ Some y → (x : A) × (o ≡ Some x) × (f x ≡ y)
map_some None f y e = absurd (cc e)
map_some (Some x) f y e = (x, refl, cc e)

same_some : {A : Type 0} (x y : A) → Some x ≡ Some y → x ≡ y
same_some x y e = cc e

either_of : {A : Type 0} {P : Type 0} (b : Bool) (x y z : A) → cond b x y ≡ z → (x ≡ z → P) → (y ≡ z → P) → P
either_of true x y z e f g = f e
either_of false x y z e f g = g e

-- ---- the keys of nodes ascend, and so do those of their values
abbrev Below : List ℕ → List ℕ → Type 0
Below k l = slice_cmp nat_cmp k l ≡ Less

abbrev First : List ℕ → Nodes → Type 0
First k no_nodes = Unit {0}
First k (node l x ns) = Below k l

abbrev mutual
  NodeSorted : Node → Type 0
  NodeSorted (value d) = is_sorted d ≡ true
  NodeSorted (open_table origin ns) = Sorted ns
  NodeSorted (open_array done ns) = (items_are_sorted done ≡ true) × Sorted ns

  Sorted : Nodes → Type 0
  Sorted no_nodes = Unit {0}
  Sorted (node k x ns) = First k ns × NodeSorted x × Sorted ns

push_sorted : (ds : Items) (d : Data) → items_are_sorted ds ≡ true → is_sorted d ≡ true → items_are_sorted (push_item ds d) ≡ true
push_sorted no_items d h g = and_from (is_sorted d) true g refl
push_sorted (item e ds) d h g =
    let parts = and_parts (is_sorted e) (items_are_sorted ds) h in
    and_from (is_sorted e) (items_are_sorted (push_item ds d)) parts.0 (push_sorted ds d parts.1 g)

first_before : (k : List ℕ) (ns : Nodes) → First k ns → is_before k (close ns) ≡ true
first_before k no_nodes h = refl
first_before k (node l x ns) h = ap is_lt h

mutual
  close_node_sorted : (x : Node) → NodeSorted x → is_sorted (close_node x) ≡ true
  close_node_sorted (value d) h = h
  close_node_sorted (open_table origin ns) h = close_sorted ns h
  close_node_sorted (open_array done ns) h = push_sorted done (table (close ns)) h.0 (close_sorted ns h.1)

  close_sorted : (ns : Nodes) → Sorted ns → members_are_sorted (close ns) ≡ true
  close_sorted no_nodes h = refl
  close_sorted (node k x ns) h =
      and_from (is_before k (close ns) && is_sorted (close_node x)) (members_are_sorted (close ns))
      (and_from (is_before k (close ns)) (is_sorted (close_node x)) (first_before k ns h.0) (close_node_sorted x h.1)) (close_sorted ns h.2)

-- ---- changes of nodes
greater_below : (k l : List ℕ) → slice_cmp nat_cmp k l ≡ Greater → Below l k
greater_below k l e = nat_list_cmp_total.antisymm l k ∙ ap ordering_reverse e

first_ordered : (l : List ℕ) (o : Ordering) (a b c : Nodes) → First l a → First l b → First l c → First l (match_ordering o a b c)
first_ordered l Less a b c f g h = f
first_ordered l Equal a b c f g h = g
first_ordered l Greater a b c f g h = h

first_insert : (l k : List ℕ) (x : Node) (ns : Nodes) → Below l k → First l ns → First l (insert k x ns)
first_insert l k x no_nodes low h = low
first_insert l k x (node m y ns) low h = first_ordered l (slice_cmp nat_cmp k m) (node k x (node m y ns)) (node m x ns) (node m y (insert k x ns)) low h h

sorted_ordered : (o : Ordering) (a b c : Nodes) → (o ≡ Less → Sorted a) → (o ≡ Equal → Sorted b) → (o ≡ Greater → Sorted c) → Sorted (match_ordering o a b c)
sorted_ordered Less a b c f g h = f refl
sorted_ordered Equal a b c f g h = g refl
sorted_ordered Greater a b c f g h = h refl

insert_sorted : (ns : Nodes) (k : List ℕ) (x : Node) → NodeSorted x → Sorted ns → Sorted (insert k x ns)
insert_sorted no_nodes k x is h = (tt, is, tt)
insert_sorted (node l y ns) k x is h = sorted_ordered (slice_cmp nat_cmp k l) (node k x (node l y ns)) (node l x ns) (node l y (insert k x ns))
    (λ e. (e, is, h)) (λ e. (h.0, is, h.2)) (λ e. (first_insert l k x ns (greater_below k l e) h.0, h.1, insert_sorted ns k x is h.2))

first_either : (l : List ℕ) (b : Bool) (a c : Nodes) → First l a → First l c → First l (cond b a c)
first_either l true a c f g = f
first_either l false a c f g = g

sorted_either : (b : Bool) (a c : Nodes) → Sorted a → Sorted c → Sorted (cond b a c)
sorted_either true a c f g = f
sorted_either false a c f g = g

first_replace : (l k : List ℕ) (x : Node) (ns : Nodes) → First l ns → First l (replace k x ns)
first_replace l k x no_nodes h = tt
first_replace l k x (node m y ns) h = first_either l (same_key k m) (node m x ns) (node m y (replace k x ns)) h h

replace_sorted : (ns : Nodes) (k : List ℕ) (x : Node) → NodeSorted x → Sorted ns → Sorted (replace k x ns)
replace_sorted no_nodes k x is h = tt
replace_sorted (node l y ns) k x is h =
    sorted_either (same_key k l) (node l x ns) (node l y (replace k x ns)) (h.0, is, h.2) (first_replace l k x ns h.0, h.1, replace_sorted ns k x is h.2)

get_sorted : (ns : Nodes) (k : List ℕ) (x : Node) → Sorted ns → get_node k ns ≡ Some x → NodeSorted x
get_sorted no_nodes k x h e = absurd (cc e)
get_sorted (node l y ns) k x h e = either_of (same_key k l) (Some y) (get_node k ns) (Some x) e (λ is. subst NodeSorted (same_some y x is) h.1) (λ rest. get_sorted ns k x h.2 rest)

-- ---- edits that leave keys ascending
abbrev Keeps : Edit → Type 0
Keeps edit = (ns new : Nodes) → Sorted ns → edit ns ≡ Some new → Sorted new

header_node_keeps : (edit : Edit) → Keeps edit → (x y : Node) → NodeSorted x → header_node edit x ≡ Some y → NodeSorted y
header_node_keeps edit keeps (value d) y h e = absurd (cc e)
header_node_keeps edit keeps (open_table origin inner) y h e =
    let found = map_some (edit inner) (open_table origin) y e in subst NodeSorted found.2 (keeps inner found.0 h found.1)
header_node_keeps edit keeps (open_array done last) y h e =
    let found = map_some (edit last) (open_array done) y e in subst NodeSorted found.2 (h.0, keeps last found.0 h.1 found.1)

dot_node_keeps : (edit : Edit) → Keeps edit → (x y : Node) → NodeSorted x → dot_node edit x ≡ Some y → NodeSorted y
dot_node_keeps edit keeps (value d) y h e = absurd (cc e)
dot_node_keeps edit keeps (open_table header inner) y h e = absurd (cc e)
dot_node_keeps edit keeps (open_table implicit inner) y h e =
    let found = map_some (edit inner) (open_table dotted) y e in subst NodeSorted found.2 (keeps inner found.0 h found.1)
dot_node_keeps edit keeps (open_table dotted inner) y h e =
    let found = map_some (edit inner) (open_table dotted) y e in subst NodeSorted found.2 (keeps inner found.0 h found.1)
dot_node_keeps edit keeps (open_array done last) y h e = absurd (cc e)

by_header_keeps : (k : List ℕ) (edit : Edit) → Keeps edit → (ns : Nodes) (o : Option Node) (new : Nodes) → Sorted ns → ((x : Node) → o ≡ Some x → NodeSorted x) → by_header k edit ns o ≡ Some new → Sorted new
by_header_keeps k edit keeps ns None new h is e =
    let found = map_some (edit no_nodes) (λ (inner : Nodes). insert k (open_table implicit inner) ns) new e in
    subst Sorted found.2 (insert_sorted ns k (open_table implicit found.0) (keeps no_nodes found.0 tt found.1) h)
by_header_keeps k edit keeps ns (Some x) new h is e =
    let found = map_some (header_node edit x) (λ (y : Node). replace k y ns) new e in
    subst Sorted found.2 (replace_sorted ns k found.0 (header_node_keeps edit keeps x found.0 (is x refl) found.1) h)

by_dot_keeps : (k : List ℕ) (edit : Edit) → Keeps edit → (ns : Nodes) (o : Option Node) (new : Nodes) → Sorted ns → ((x : Node) → o ≡ Some x → NodeSorted x) → by_dot k edit ns o ≡ Some new → Sorted new
by_dot_keeps k edit keeps ns None new h is e =
    let found = map_some (edit no_nodes) (λ (inner : Nodes). insert k (open_table dotted inner) ns) new e in
    subst Sorted found.2 (insert_sorted ns k (open_table dotted found.0) (keeps no_nodes found.0 tt found.1) h)
by_dot_keeps k edit keeps ns (Some x) new h is e =
    let found = map_some (dot_node edit x) (λ (y : Node). replace k y ns) new e in
    subst Sorted found.2 (replace_sorted ns k found.0 (dot_node_keeps edit keeps x found.0 (is x refl) found.1) h)

along_header_keeps : (path : List (List ℕ)) (edit : Edit) → Keeps edit → Keeps (along_header path edit)
unfolding along_header
along_header_keeps [] edit keeps ns new h e = keeps ns new h e
along_header_keeps (k ∷ path) edit keeps ns new h e =
    by_header_keeps k (along_header path edit) (along_header_keeps path edit keeps) ns (get_node k ns) new h (λ x is. get_sorted ns k x h is) e

along_dots_keeps : (path : List (List ℕ)) (edit : Edit) → Keeps edit → Keeps (along_dots path edit)
unfolding along_dots
along_dots_keeps [] edit keeps ns new h e = keeps ns new h e
along_dots_keeps (k ∷ path) edit keeps ns new h e =
    by_dot_keeps k (along_dots path edit) (along_dots_keeps path edit keeps) ns (get_node k ns) new h (λ x is. get_sorted ns k x h is) e

abbrev DefinitionSorted : Definition → Type 0
DefinitionSorted (key_value d) = is_sorted d ≡ true
DefinitionSorted std_table = Unit {0}
DefinitionSorted array_table = Unit {0}

new_sorted : (what : Definition) → DefinitionSorted what → NodeSorted (new_node what)
new_sorted (key_value d) h = h
new_sorted std_table h = tt
new_sorted array_table h = (refl, tt)

redefine_sorted : (what : Definition) (x y : Node) → NodeSorted x → redefine what x ≡ Some y → NodeSorted y
redefine_sorted (key_value d) (value c) y h e = absurd (cc e)
redefine_sorted (key_value d) (open_table origin inner) y h e = absurd (cc e)
redefine_sorted (key_value d) (open_array done last) y h e = absurd (cc e)
redefine_sorted std_table (value c) y h e = absurd (cc e)
redefine_sorted std_table (open_table implicit inner) y h e = subst NodeSorted (same_some (open_table header inner) y e) h
redefine_sorted std_table (open_table dotted inner) y h e = absurd (cc e)
redefine_sorted std_table (open_table header inner) y h e = absurd (cc e)
redefine_sorted std_table (open_array done last) y h e = absurd (cc e)
redefine_sorted array_table (value c) y h e = absurd (cc e)
redefine_sorted array_table (open_table origin inner) y h e = absurd (cc e)
redefine_sorted array_table (open_array done last) y h e =
    subst NodeSorted (same_some (open_array (push_item done (table (close last))) no_nodes) y e) (push_sorted done (table (close last)) h.0 (close_sorted last h.1), tt)

at_found_keeps : (k : List ℕ) (what : Definition) (ns : Nodes) (o : Option Node) (new : Nodes) → DefinitionSorted what → Sorted ns → ((x : Node) → o ≡ Some x → NodeSorted x) → at_found k what ns o ≡ Some new → Sorted new
at_found_keeps k what ns None new d h is e = subst Sorted (same_some (insert k (new_node what) ns) new e) (insert_sorted ns k (new_node what) (new_sorted what d) h)
at_found_keeps k what ns (Some x) new d h is e =
    let found = map_some (redefine what x) (λ (y : Node). replace k y ns) new e in
    subst Sorted found.2 (replace_sorted ns k found.0 (redefine_sorted what x found.0 (is x refl) found.1) h)

at_key_keeps : (k : List ℕ) (what : Definition) → DefinitionSorted what → Keeps (at_key k what)
unfolding at_key
at_key_keeps k what d ns new h e = at_found_keeps k what ns (get_node k ns) new d h (λ x is. get_sorted ns k x h is) e

put_keeps : (k : Key) (d : Data) → is_sorted d ≡ true → Keeps (put k d)
put_keeps k d is = along_dots_keeps k.0 (at_key k.1 (key_value d)) (at_key_keeps k.1 (key_value d) is)

define_as_keeps : (doc : Document) (k : Key) (what : Definition) (next : Document) → Sorted doc.0 → DefinitionSorted what → define_as doc k what ≡ Some next → Sorted next.0
define_as_keeps doc k (key_value d) next h is e =
    let found = map_some (along_header doc.1 (put k d) doc.0) (λ (root : Nodes). (root, doc.1)) next e in
    subst (λ (x : Document). Sorted x.0) found.2 (along_header_keeps doc.1 (put k d) (put_keeps k d is) doc.0 found.0 h found.1)
define_as_keeps doc k std_table next h is e =
    let found = map_some (along_header k.0 (at_key k.1 std_table) doc.0) (λ (root : Nodes). (root, k.0 ++ k.1 ∷ [])) next e in
    subst (λ (x : Document). Sorted x.0) found.2 (along_header_keeps k.0 (at_key k.1 std_table) (at_key_keeps k.1 std_table tt) doc.0 found.0 h found.1)
define_as_keeps doc k array_table next h is e =
    let found = map_some (along_header k.0 (at_key k.1 array_table) doc.0) (λ (root : Nodes). (root, k.0 ++ k.1 ∷ [])) next e in
    subst (λ (x : Document). Sorted x.0) found.2 (along_header_keeps k.0 (at_key k.1 array_table) (at_key_keeps k.1 array_table tt) doc.0 found.0 h found.1)

define_keeps : (doc : Document) (what : Expression) (next : Document) → Sorted doc.0 → DefinitionSorted what.1 → define doc what ≡ Some next → Sorted next.0
unfolding define
define_keeps doc what next h is e = define_as_keeps doc what.0 what.1 next h is e

-- ---- values
abbrev GivesSorted : (List ℕ → Read Data) → Type 0
GivesSorted v = (text : List ℕ) (r : Data × List ℕ) → v text ≡ Some r → is_sorted r.0 ≡ true

abbrev FirstSorted : Data × List ℕ → Type 0
FirstSorted r = is_sorted r.0 ≡ true

string_read : (o : Read (List ℕ)) (r : Data × List ℕ) → option_map (λ (p : List ℕ × List ℕ). (string p.0, p.1)) o ≡ Some r → FirstSorted r
string_read o r e = let found = map_some o (λ (p : List ℕ × List ℕ). (string p.0, p.1)) r e in subst FirstSorted found.2 refl

scalar_read : {S : Type 0} (o : Read S) (f : S → Data) (r : Data × List ℕ) → ((s : S) → is_sorted (f s) ≡ true) → option_map (λ (p : S × List ℕ). (f p.0, p.1)) o ≡ Some r → FirstSorted r
scalar_read {S} o f r is e = let found = map_some o (λ (p : S × List ℕ). (f p.0, p.1)) r e in subst FirstSorted found.2 (is found.0.0)

atom_sorted : GivesSorted atom
unfolding atom
atom_sorted text r e = either_of (slice_index text 0 == 34 || slice_index text 0 == 39) _ _ (Some r) e
    (λ a. string_read _ r a)
    (λ a. scalar_read _ scalar_data r (λ s. grind arith) a)

keyval_sorted : (v : List ℕ → Read Data) → GivesSorted v → (text : List ℕ) (r : (Key × Data) × List ℕ) → keyval v text ≡ Some r → is_sorted r.0.1 ≡ true
keyval_sorted v is text r e =
    let found = bind_some (key_equals text) (λ (k : Key × List ℕ). option_map (λ (p : Data × List ℕ). ((k.0, p.0), p.1)) (v k.1)) r e in
    let inner = map_some (v found.0.1) (λ (p : Data × List ℕ). ((found.0.0, p.0), p.1)) r found.2 in
    subst (λ (x : (Key × Data) × List ℕ). is_sorted x.0.1 ≡ true) inner.2 (is found.0.1 inner.0 inner.1)

-- a text without the blanks at its front, which the equation has on its right
abbrev right_of : {A : Type 0} {x y : A} → x ≡ y → A
right_of {y = y} p = y

abbrev unblanked : List ℕ → List ℕ
unblanked text = right_of (skip_space text)

items_at : (v : List ℕ → Read Data) → GivesSorted v → (n : ℕ) (found : Items) (start : List ℕ) (r : Items × List ℕ) → items_are_sorted found ≡ true →
    ((more : Items) (text : List ℕ) → items_are_sorted more ≡ true → items v n more text ≡ Some r → items_are_sorted r.0 ≡ true) →
    cond (slice_index start 0 == 93) (Some (found, drop 1 start)) (option_and_then (λ (x : Data × List ℕ). option_and_then (items v n (push_item found x.0)) (after_element 93 x.1)) (v start)) ≡ Some r →
    items_are_sorted r.0 ≡ true
items_at v is n found start r h rest e =
    either_of (slice_index start 0 == 93) (Some (found, drop 1 start)) (option_and_then (λ (x : Data × List ℕ). option_and_then (items v n (push_item found x.0)) (after_element 93 x.1)) (v start)) (Some r) e
    (λ a. subst (λ (x : Items × List ℕ). items_are_sorted x.0 ≡ true) (same_some (found, drop 1 start) r a) h)
    (λ a.
    let one = bind_some (v start) (λ (x : Data × List ℕ). option_and_then (items v n (push_item found x.0)) (after_element 93 x.1)) r a in
    let more = bind_some (after_element 93 one.0.1) (items v n (push_item found one.0.0)) r one.2 in
    rest (push_item found one.0.0) more.0 (push_sorted found one.0.0 h (is start one.0 one.1)) more.2)

items_sorted : (v : List ℕ → Read Data) → GivesSorted v → (n : ℕ) (found : Items) (text : List ℕ) (r : Items × List ℕ) → items_are_sorted found ≡ true → items v n found text ≡ Some r → items_are_sorted r.0 ≡ true
unfolding items
items_sorted v is zero found text r h e = absurd (cc e)
items_sorted v is (suc n) found text r h e = items_at v is n found (unblanked text) r h (λ more text g f. items_sorted v is n more text r g f) e

members_at : (v : List ℕ → Read Data) → GivesSorted v → (n : ℕ) (found : Nodes) (start : List ℕ) (r : Members × List ℕ) → Sorted found →
    ((more : Nodes) (text : List ℕ) → Sorted more → members v n more text ≡ Some r → members_are_sorted r.0 ≡ true) →
    cond (slice_index start 0 == 125) (Some (close found, drop 1 start))
    (option_and_then (λ (x : (Key × Data) × List ℕ). option_and_then (λ (more : Nodes). option_and_then (members v n more) (after_element 125 x.1)) (put x.0.0 x.0.1 found)) (keyval v start)) ≡ Some r →
    members_are_sorted r.0 ≡ true
members_at v is n found start r h rest e =
    either_of (slice_index start 0 == 125) (Some (close found, drop 1 start))
    (option_and_then (λ (x : (Key × Data) × List ℕ). option_and_then (λ (more : Nodes). option_and_then (members v n more) (after_element 125 x.1)) (put x.0.0 x.0.1 found)) (keyval v start)) (Some r) e
    (λ a. subst (λ (x : Members × List ℕ). members_are_sorted x.0 ≡ true) (same_some (close found, drop 1 start) r a) (close_sorted found h))
    (λ a.
    let one = bind_some (keyval v start) (λ (x : (Key × Data) × List ℕ). option_and_then (λ (more : Nodes). option_and_then (members v n more) (after_element 125 x.1)) (put x.0.0 x.0.1 found)) r a in
    let two = bind_some (put one.0.0.0 one.0.0.1 found) (λ (more : Nodes). option_and_then (members v n more) (after_element 125 one.0.1)) r one.2 in
    let more = bind_some (after_element 125 one.0.1) (members v n two.0) r two.2 in
    rest two.0 more.0 (put_keeps one.0.0.0 one.0.0.1 (keyval_sorted v is start one.0 one.1) found two.0 h two.1) more.2)

members_sorted : (v : List ℕ → Read Data) → GivesSorted v → (n : ℕ) (found : Nodes) (text : List ℕ) (r : Members × List ℕ) → Sorted found → members v n found text ≡ Some r → members_are_sorted r.0 ≡ true
unfolding members
members_sorted v is zero found text r h e = absurd (cc e)
members_sorted v is (suc n) found text r h e = members_at v is n found (unblanked text) r h (λ more text g f. members_sorted v is n more text r g f) e

val_sorted : (depth : ℕ) → GivesSorted (val depth)
unfolding val
val_sorted zero text r e = atom_sorted text r e
val_sorted (suc depth) text r e =
    either_of (slice_index text 0 == 91) (option_map (λ (p : Items × List ℕ). (array p.0, p.1)) (items (val depth) (length text) no_items (drop 1 text)))
    (cond (slice_index text 0 == 123) (option_map (λ (p : Members × List ℕ). (table p.0, p.1)) (members (val depth) (length text) no_nodes (drop 1 text))) (atom text)) (Some r) e
    (λ a.
    let found = map_some (items (val depth) (length text) no_items (drop 1 text)) (λ (p : Items × List ℕ). (array p.0, p.1)) r a in
    subst FirstSorted found.2 (items_sorted (val depth) (val_sorted depth) (length text) no_items (drop 1 text) found.0 refl found.1))
    (λ b.
    either_of (slice_index text 0 == 123) (option_map (λ (p : Members × List ℕ). (table p.0, p.1)) (members (val depth) (length text) no_nodes (drop 1 text))) (atom text) (Some r) b
    (λ a.
    let found = map_some (members (val depth) (length text) no_nodes (drop 1 text)) (λ (p : Members × List ℕ). (table p.0, p.1)) r a in
    subst FirstSorted found.2 (members_sorted (val depth) (val_sorted depth) (length text) no_nodes (drop 1 text) found.0 tt found.1))
    (λ a. atom_sorted text r a))

-- ---- documents
abbrev ExpressionSorted : Expression × List ℕ → Type 0
ExpressionSorted r = DefinitionSorted r.0.1

expression_sorted : (text : List ℕ) (r : Expression × List ℕ) → expression text ≡ Some r → ExpressionSorted r
unfolding expression
expression_sorted text r e =
    either_of (slice_index text 0 == 91 && slice_index text 1 == 91)
    (option_and_then (λ (k : Key × List ℕ). option_map (λ (rest : List ℕ). ((k.0, array_table), rest)) (after_byte 93 k.1)) (header_key (drop 2 text)))
    (cond (slice_index text 0 == 91) (option_map (λ (p : Key × List ℕ). ((p.0, std_table), p.1)) (header_key (drop 1 text)))
    (option_map (λ (p : (Key × Data) × List ℕ). ((p.0.0, key_value p.0.1), p.1)) (keyval (val 80) text))) (Some r) e
    (λ a.
    let found = bind_some (header_key (drop 2 text)) (λ (k : Key × List ℕ). option_map (λ (rest : List ℕ). ((k.0, array_table), rest)) (after_byte 93 k.1)) r a in
    let inner = map_some (after_byte 93 found.0.1) (λ (rest : List ℕ). ((found.0.0, array_table), rest)) r found.2 in
    subst ExpressionSorted inner.2 tt)
    (λ b.
    either_of (slice_index text 0 == 91) (option_map (λ (p : Key × List ℕ). ((p.0, std_table), p.1)) (header_key (drop 1 text)))
    (option_map (λ (p : (Key × Data) × List ℕ). ((p.0.0, key_value p.0.1), p.1)) (keyval (val 80) text)) (Some r) b
    (λ a.
    let found = map_some (header_key (drop 1 text)) (λ (p : Key × List ℕ). ((p.0, std_table), p.1)) r a in
    subst ExpressionSorted found.2 tt)
    (λ a.
    let found = map_some (keyval (val 80) text) (λ (p : (Key × Data) × List ℕ). ((p.0.0, key_value p.0.1), p.1)) r a in
    subst ExpressionSorted found.2 (keyval_sorted (val 80) (val_sorted 80) text found.0 found.1)))

checked_sorted : (e r : Expression × List ℕ) (b : Bool) → ExpressionSorted e → cond b (Some e) None ≡ Some r → ExpressionSorted r
checked_sorted e r true h is = subst ExpressionSorted (same_some e r is) h
checked_sorted e r false h is = absurd (cc is)

line_sorted : (text : List ℕ) (r : Expression × List ℕ) → line text ≡ Some r → ExpressionSorted r
unfolding line
line_sorted text r e =
    let found = bind_some (expression text) _ r e in
    checked_sorted found.0 r _ (expression_sorted text found.0 found.1) found.2

lines_at : (n : ℕ) (doc last : Document) (start : List ℕ) → Sorted doc.0 → ((next : Document) (text : List ℕ) → Sorted next.0 → lines n next text ≡ Some last → Sorted last.0) →
    cond (length start == 0) (Some doc) (option_and_then (λ (x : Expression × List ℕ). option_and_then (λ (next : Document). lines n next x.1) (define doc x.0)) (line start)) ≡ Some last → Sorted last.0
lines_at n doc last start h rest e =
    either_of (length start == 0) (Some doc) (option_and_then (λ (x : Expression × List ℕ). option_and_then (λ (next : Document). lines n next x.1) (define doc x.0)) (line start)) (Some last) e
    (λ a. subst (λ (x : Document). Sorted x.0) (same_some doc last a) h)
    (λ a.
    let one = bind_some (line start) (λ (x : Expression × List ℕ). option_and_then (λ (next : Document). lines n next x.1) (define doc x.0)) last a in
    let two = bind_some (define doc one.0.0) (λ (next : Document). lines n next one.0.1) last one.2 in
    rest two.0 one.0.1 (define_keeps doc one.0.0 two.0 h (line_sorted start one.0 one.1) two.1) two.2)

lines_sorted : (n : ℕ) (doc last : Document) (text : List ℕ) → Sorted doc.0 → lines n doc text ≡ Some last → Sorted last.0
unfolding lines
lines_sorted zero doc last text h e = absurd (cc e)
lines_sorted (suc n) doc last text h e = lines_at n doc last (unblanked text) h (λ next text g f. lines_sorted n next last text g f) e

pub document_sorted : (text : List ℕ) (ms : Members) → parse_document text ≡ Some ms → members_are_sorted ms ≡ true
unfolding parse_document
document_sorted text ms e =
    let found = map_some (lines (suc (length text)) (no_nodes, []) (skip_bom text)) (λ (doc : Document). close doc.0) ms e in
    subst (λ (x : Members). members_are_sorted x ≡ true) found.2 (close_sorted found.0.0 (lines_sorted (suc (length text)) (no_nodes, []) found.0 (skip_bom text) tt found.1))

-- the value at a key is sorted too
ordered_sorted : (o : Ordering) (a b c : Option Data) (d : Data) → match_ordering o a b c ≡ Some d → (a ≡ Some d → is_sorted d ≡ true) → (b ≡ Some d → is_sorted d ≡ true) → (c ≡ Some d → is_sorted d ≡ true) → is_sorted d ≡ true
ordered_sorted Less a b c d e f g h = f e
ordered_sorted Equal a b c d e f g h = g e
ordered_sorted Greater a b c d e f g h = h e

pub member_sorted : (k : List ℕ) (ms : Members) (d : Data) → members_are_sorted ms ≡ true → get_member k ms ≡ Some d → is_sorted d ≡ true
member_sorted k no_members d h e = absurd (cc e)
member_sorted k (member l c ms) d h e =
    let parts = and_parts (is_before l ms && is_sorted c) (members_are_sorted ms) h in
    let here = and_parts (is_before l ms) (is_sorted c) parts.0 in
    ordered_sorted (slice_cmp nat_cmp k l) (get_member k ms) (Some c) (get_member k ms) d e
    (λ a. member_sorted k ms d parts.1 a) (λ a. subst (λ (x : Data). is_sorted x ≡ true) (same_some c d a) here.1) (λ a. member_sorted k ms d parts.1 a)
