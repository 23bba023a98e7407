-- Where modules have an order in which each stands behind those that it instantiates, and names of their own, no instance leads back.
use Rattle.std.proofs.Common.{◌≡◌, ℕ, zero, suc, ◌<◌, ◌≤◌, List, [], ◌∷◌, ◌++◌, length, map, filter, slice_index, get_or, bytes_eq, Bool, true, false, not, ◌||◌, cond, is_some, nat_lt, Option, Some, None, IfSome, refl, sym, ap, ◌∙◌, subst, arith}
use Rattle.std.specs.List.{AllByRecursion, list_any}
use Rattle.std.specs.Option.{option_map, option_or}
use Rattle.std.proofs.lemmas.Bool.Decides.{nat_tests}
use Rattle.std.proofs.lemmas.List.{get_or-map}
use Rattle.std.proofs.lemmas.List.Folds.{list_any-append}
use Rattle.std.proofs.lemmas.Slice.Eq.{bytes_eq-Decides}
use Rattle.mintc_netlist.specs.declared.module.Item.{Item}
use Rattle.mintc_netlist.specs.declared.module.Module.{Module}
use Rattle.mintc_text_names.specs.Names.{is_among}
use Rattle.mintc_netlist.specs.Again.{comes_again}
use Rattle.mintc_netlist.specs.Ordinary.{entry_of}
use Rattle.mintc_netlist.specs.Statements.{Statement, statement_of, first_at_fault}
use Rattle.mintc_flatten_hierarchy.specs.declared.bindings.Binding.{Binding}
use Rattle.mintc_flatten_hierarchy.specs.declared.bindings.Binding.TheVariants.{OfCell, OfModule, OfNothing}
use Rattle.mintc_flatten_hierarchy.specs.Sources.{Source, module_at, no_module, is_stub, is_called, modules_of, scope_number, binding_in, bindings_in, children_of}
use Rattle.mintc_flatten_hierarchy.specs.Faults.{leads, leads_back, is_name_twice, is_recursive}
use Rattle.mintc_flatten_hierarchy.specs.Refusals.{name_twice_refusal}
use Rattle.mintc_text.specs.declared.refusals.Refusal.TheVariants as refusal
use Rattle.mintc_cells.specs.Entries.{number_of}
use Rattle.mintc_flatten_rules.specs.Firsts.{first_in, first_after, first_of}
use Rattle.mintc_flatten_binding.specs.Orders.{Stands, IsOrder, HoldsAll}
use Rattle.mintc_flatten_rules.specs.Twice.{first_again, first_again_of}
use Rattle.mintc_flatten_rules.proofs.AgainLaws.{first_again-is}
use Rattle.mintc_flatten_rules.proofs.FirstLaws.{first_at_fault-is, first_in-is}
use Rattle.mintc_flatten_binding.proofs.SharedOrderingLaws.{each}
use Rattle.mintc_flatten_rules.proofs.SearchLaws.{none_of, or_none}

-- What an instance is of, as it is kept.
pub own_binding : (s : Source) (m : Module) (own : List Binding) (is : List Item) (n : ℕ) (i : Item) (d : Binding) → own ≡ bindings_in s m → is ≡ m.items → n < length is → i ≡ get_or is n i → get_or own n d ≡ binding_in s i
own_binding s m own is n i d e f inside same =
    ap (λ (ts : List Binding). get_or ts n d) e
    ∙ ap (λ (l : List Item). get_or (map (binding_in s) l) n d) (sym f)
    ∙ get_or-map (binding_in s) is n i d inside
    ∙ ap (binding_in s) (sym same)

-- Names that are given once.
unnamed : {A B : Type 0} (f : A → B) (o : Option A) → option_map f o ≡ None → o ≡ None
unnamed f None h = refl
unnamed f (Some x) h = cc

first_none : (a b : Option ℕ) → option_or a b ≡ None → a ≡ None
first_none None b h = refl
first_none (Some x) b h = cc

second_none : (a b : Option ℕ) → option_or a b ≡ None → b ≡ None
second_none None b h = h
second_none (Some x) b h = cc

fresh_by : (a b : Bool) (n : ℕ) (o : Option ℕ) → cond (a || b) (Some n) o ≡ None → a ≡ false
fresh_by false b n o h = refl
fresh_by true b n o h = cc

fresh_name : (names : List (List ℕ)) (m : Module) → first_again names m ≡ None → is_among m.name names ≡ false
fresh_name names m h = fresh_by (is_among m.name names) (comes_again bytes_eq [] m.ports) m.entry (first_after is_name_twice m [] m.items) h

front_false : (a b : Bool) → (a || b) ≡ false → a ≡ false
front_false false b h = refl
front_false true b h = cc

back_false : (a b : Bool) → (a || b) ≡ false → b ≡ false
back_false false b h = h
back_false true b h = cc

-- what the modules behind one say
rest_counted : (counts : Module → Bool) (names : List (List ℕ)) (m : Module) (ms : List Module) → counts m ≡ true → first_again_of names (filter counts (m ∷ ms)) ≡ None → option_or (first_again names m) (first_again_of (names ++ m.name ∷ []) (filter counts ms)) ≡ None
rest_counted counts names m ms e h = sym (ap (λ b. first_again_of names (cond b (m ∷ filter counts ms) (filter counts ms))) e) ∙ h

rest_passed : (counts : Module → Bool) (names : List (List ℕ)) (m : Module) (ms : List Module) → counts m ≡ false → first_again_of names (filter counts (m ∷ ms)) ≡ None → first_again_of names (filter counts ms) ≡ None
rest_passed counts names m ms e h = sym (ap (λ b. first_again_of names (cond b (m ∷ filter counts ms) (filter counts ms))) e) ∙ h

-- a module that counts has a name that wasn't there before
new_by : (counts : Module → Bool) (names : List (List ℕ)) (m : Module) (ms : List Module) (name : List ℕ) (b : Bool) → counts m ≡ b → first_again_of names (filter counts (m ∷ ms)) ≡ None →
    ((more : List (List ℕ)) → first_again_of more (filter counts ms) ≡ None → is_among name more ≡ false) → is_among name names ≡ false
new_by counts names m ms name false e h later = later names (rest_passed counts names m ms e h)
new_by counts names m ms name true e h later =
    front_false (is_among name names) (is_among name (m.name ∷ []))
    (sym (list_any-append (bytes_eq name) names (m.name ∷ [])) ∙ later (names ++ m.name ∷ []) (second_none (first_again names m) (first_again_of (names ++ m.name ∷ []) (filter counts ms)) (rest_counted counts names m ms e h)))

new_name : (counts : Module → Bool) (names : List (List ℕ)) (ms : List Module) (k : ℕ) → first_again_of names (filter counts ms) ≡ None → k < length ms → counts (get_or ms k no_module) ≡ true →
    is_among (get_or ms k no_module).name names ≡ false
new_name counts names [] k h inside live = absurd (omega arith)
new_name counts names (m ∷ ms) zero h inside live = fresh_name names m (first_none (first_again names m) (first_again_of (names ++ m.name ∷ []) (filter counts ms)) (rest_counted counts names m ms live h))
new_name counts names (m ∷ ms) (suc k) h inside live =
    let below : k < length ms = omega arith in
    new_by counts names m ms (get_or ms k no_module).name (counts m) refl h (λ more rest. new_name counts more ms k rest below live)

-- no later module that counts has the name of an earlier one
rest_of : (counts : Module → Bool) (names : List (List ℕ)) (m : Module) (ms : List Module) (b : Bool) → counts m ≡ b → first_again_of names (filter counts (m ∷ ms)) ≡ None → (more : List (List ℕ)) × (first_again_of more (filter counts ms) ≡ None)
rest_of counts names m ms false e h = (names, rest_passed counts names m ms e h)
rest_of counts names m ms true e h = (names ++ m.name ∷ [], second_none (first_again names m) (first_again_of (names ++ m.name ∷ []) (filter counts ms)) (rest_counted counts names m ms e h))

later_name : (counts : Module → Bool) (names : List (List ℕ)) (ms : List Module) (i j : ℕ) → first_again_of names (filter counts ms) ≡ None → i < j → j < length ms → counts (get_or ms i no_module) ≡ true → counts (get_or ms j no_module) ≡ true →
    bytes_eq (get_or ms j no_module).name (get_or ms i no_module).name ≡ false
later_name counts names [] i j h less inside live other = absurd (omega arith)
later_name counts names (m ∷ ms) i zero h less inside live other = absurd (omega arith)
later_name counts names (m ∷ ms) zero (suc j) h less inside live other =
    let below : j < length ms = omega arith in
    let name = (get_or ms j no_module).name in
    let both : is_among name (names ++ m.name ∷ []) ≡ false = new_name counts (names ++ m.name ∷ []) ms j (second_none (first_again names m) (first_again_of (names ++ m.name ∷ []) (filter counts ms)) (rest_counted counts names m ms live h)) below other in
    front_false (bytes_eq name m.name) false (back_false (is_among name names) (is_among name (m.name ∷ [])) (sym (list_any-append (bytes_eq name) names (m.name ∷ [])) ∙ both))
later_name counts names (m ∷ ms) (suc i) (suc j) h less inside live other =
    let below : j < length ms = omega arith in
    let before : i < j = omega arith in
    let rest = rest_of counts names m ms (counts m) refl h in
    later_name counts rest.0 ms i j rest.1 before below live other

one_name : (s : Source) (i j : ℕ) → name_twice_refusal s ≡ None → i < length s.modules → j < length s.modules → is_stub s (module_at s i) ≡ false → is_stub s (module_at s j) ≡ false →
    (module_at s i).name ≡ (module_at s j).name → i ≡ j
one_name s i j h low other live lives same = by_order (nat_lt i j) (nat_lt j i) refl refl
  where
    once : first_again_of [] (modules_of s) ≡ None
    once = sym (first_again-is (modules_of s)) ∙ unnamed refusal.NameTwice (first_at_fault is_name_twice (modules_of s)) h

    by_order : (a b : Bool) → nat_lt i j ≡ a → nat_lt j i ≡ b → i ≡ j
    by_order true b e f =
        let less : i < j = grind (arith, nat_tests) in
        let differ = later_name (λ m. not (is_stub s m)) [] s.modules i j once less other (ap not live) (ap not lives) in
        let bad : true ≡ false = sym ((bytes_eq-Decides (module_at s j).name (module_at s i).name).1 (sym same)) ∙ differ in
        cc
    by_order false true e f =
        let less : j < i = grind (arith, nat_tests) in
        let differ = later_name (λ m. not (is_stub s m)) [] s.modules j i once less low (ap not lives) (ap not live) in
        let bad : true ≡ false = sym ((bytes_eq-Decides (module_at s i).name (module_at s j).name).1 same) ∙ differ in
        cc
    by_order false false e f = grind (arith, nat_tests)

-- The modules before a place of an order lead to no name that they don't have.
abbrev Others : Source → List ℕ → List ℕ → ℕ → Type 0
Others s name order p = (j : ℕ) → j < p → is_called name (module_at s (slice_index order j)) ≡ false

not_by : (s : Source) (name order : List ℕ) (most j p : ℕ) → j ≤ p → ((i : ℕ) → i < p → leads s most name (slice_index order i) ≡ false) → (t : Binding) → Stands order j t → IfSome (scope_number t) (λ k. leads s most name k ≡ false)
not_by s name order most j p le h (OfCell c) stands = tt
not_by s name order most j p le h OfNothing stands = tt
not_by s name order most j p le h (OfModule k) (i, before, is) = let below : i < p = omega arith in subst (λ (n : ℕ). leads s most name n ≡ false) is (h i below)

not_before : (s : Source) (name order : List ℕ) (p : ℕ) → IsOrder s order → p ≤ length order → Others s name order p → (most j : ℕ) → j < p → leads s most name (slice_index order j) ≡ false
not_before s name order p h le others zero j before = others j before
not_before s name order p h le others (suc most) j before =
    let m = module_at s (slice_index order j) in
    let inside : j < length order = omega arith in
    let low : j ≤ p = omega arith in
    or_none (is_called name m) (list_any (leads s most name) (children_of s m)) (others j before)
    (none_of s (leads s most name) m.items (each (not_by s name order most j p low (not_before s name order p h le others most)) (bindings_in s m) (h.behind j inside)))

-- the first place of an order with a test
record FirstPlace (test : ℕ → Bool) (order : List ℕ) : Type 0 where
  pub place : ℕ
  pub inside : place < length order
  pub passes : test (slice_index order place) ≡ true
  pub before : (j : ℕ) → j < place → test (slice_index order j) ≡ false

before_more : (test : ℕ → Bool) (x : ℕ) (xs : List ℕ) (p : ℕ) → test x ≡ false → ((j : ℕ) → j < p → test (slice_index xs j) ≡ false) → (j : ℕ) → j < suc p → test (slice_index (x ∷ xs) j) ≡ false
before_more test x xs p e h zero less = e
before_more test x xs p e h (suc j) less = let below : j < p = omega arith in h j below

first_by : (test : ℕ → Bool) (x : ℕ) (xs : List ℕ) (b : Bool) → test x ≡ b → (b ≡ false → FirstPlace test xs) → FirstPlace test (x ∷ xs)
first_by test x xs true e later = record { place = 0; inside = omega arith; passes = e; before = λ j less. absurd (omega arith) }
first_by test x xs false e later =
    let rest = later refl in
    let within = rest.inside in
    record { place = suc rest.place; inside = omega arith; passes = rest.passes; before = before_more test x xs rest.place e rest.before }

first_place : (test : ℕ → Bool) (order : List ℕ) (i : ℕ) → i < length order → test (slice_index order i) ≡ true → FirstPlace test order
first_place test [] i inside h = absurd (omega arith)
first_place test (x ∷ xs) zero inside h = first_by test x xs (test x) refl (λ e. let bad : true ≡ false = sym h ∙ e in cc)
first_place test (x ∷ xs) (suc i) inside h = let below : i < length xs = omega arith in first_by test x xs (test x) refl (λ e. first_place test xs i below h)

-- No instance of a module leads back to it.
back_by : (s : Source) (m : Module) (order : List ℕ) (p : ℕ) → ((i : ℕ) → i < p → leads s (length s.modules) m.name (slice_index order i) ≡ false) → (t : Binding) → Stands order p t → leads_back s m t ≡ false
back_by s m order p h (OfCell c) stands = refl
back_by s m order p h OfNothing stands = refl
back_by s m order p h (OfModule k) (i, before, is) = subst (λ (n : ℕ). leads s (length s.modules) m.name n ≡ false) is (h i before)

none_back : (s : Source) (order : List ℕ) (k : ℕ) → IsOrder s order → HoldsAll s order → name_twice_refusal s ≡ None → k < length s.modules → is_stub s (module_at s k) ≡ false →
    AllByRecursion (λ t. leads_back s (module_at s k) t ≡ false) (bindings_in s (module_at s k))
none_back s order k h all once inside live =
    let module_nets = module_at s k in
    let at = all k inside live in
    let found : is_called module_nets.name (module_at s (slice_index order at.0)) ≡ true = ap (λ (n : ℕ). is_called module_nets.name (module_at s n)) at.2 ∙ (bytes_eq-Decides module_nets.name module_nets.name).1 refl in
    let first = first_place (λ n. is_called module_nets.name (module_at s n)) order at.0 at.1 found in
    let number = slice_index order first.place in
    let named : module_nets.name ≡ (module_at s number).name = (bytes_eq-Decides module_nets.name (module_at s number).name).0 first.passes in
    let lives : is_stub s (module_at s number) ≡ false = sym (ap (λ (n : List ℕ). is_some (number_of s.cells n)) named) ∙ live in
    let same : number ≡ k = one_name s number k once (h.number first.place first.inside) inside lives live (sym named) in
    let within = first.inside in
    let le : first.place ≤ length order = omega arith in
    subst (λ (n : ℕ). AllByRecursion (λ t. leads_back s module_nets t ≡ false) (bindings_in s (module_at s n))) same
    (each (back_by s module_nets order first.place (not_before s module_nets.name order first.place h le first.before (length s.modules))) (bindings_in s (module_at s number)) (h.behind first.place first.inside))

-- So there is no first at fault.
passed_by : (b : Bool) (x : ℕ) (o : Option ℕ) → b ≡ false → o ≡ None → cond b (Some x) o ≡ None
passed_by false x o e h = h
passed_by true x o e h = cc

none_after : (s : Source) (m : Module) (before is : List Item) → AllByRecursion (λ t. leads_back s m t ≡ false) (map (binding_in s) is) → first_after (is_recursive s) m before is ≡ None
none_after s m before [] h = refl
none_after s m before (i ∷ is) h =
    passed_by (is_recursive s (statement_of [] m before (Some i))) (entry_of i) (first_after (is_recursive s) m (before ++ i ∷ []) is) h.0 (none_after s m (before ++ i ∷ []) is h.1)

none_or : (a b : Option ℕ) → a ≡ None → b ≡ None → option_or a b ≡ None
none_or a b e f = ap (λ (o : Option ℕ). option_or o b) e ∙ f

none_by : (test : Statement → Bool) (counts : Module → Bool) (m : Module) (ms : List Module) (b : Bool) → counts m ≡ b → (counts m ≡ true → first_in test m ≡ None) → first_of test (filter counts ms) ≡ None → first_of test (cond b (m ∷ filter counts ms) (filter counts ms)) ≡ None
none_by test counts m ms true e h rest = none_or (first_in test m) (first_of test (filter counts ms)) (h e) rest
none_by test counts m ms false e h rest = rest

none_all : (test : Statement → Bool) (counts : Module → Bool) (ms : List Module) → ((k : ℕ) → k < length ms → counts (get_or ms k no_module) ≡ true → first_in test (get_or ms k no_module) ≡ None) → first_of test (filter counts ms) ≡ None
none_all test counts [] h = refl
none_all test counts (m ∷ ms) h =
    none_by test counts m ms (counts m) refl (h 0 (omega arith)) (none_all test counts ms (λ k inside live. h (suc k) (omega arith) live))

not_false : (b : Bool) → not b ≡ true → b ≡ false
not_false false h = refl
not_false true h = cc

pub none_recursive : (s : Source) (order : List ℕ) → IsOrder s order → HoldsAll s order → name_twice_refusal s ≡ None → None ≡ first_at_fault (is_recursive s) (modules_of s)
none_recursive s order h all once =
    sym
    (first_at_fault-is (is_recursive s) (λ earlier m before i. refl) (modules_of s)
    ∙ none_all (is_recursive s) (λ m. not (is_stub s m)) s.modules (λ k inside live.
    first_in-is (is_recursive s) (module_at s k) ∙ none_after s (module_at s k) [] (module_at s k).items (none_back s order k h all once inside (not_false (is_stub s (module_at s k)) live))))
