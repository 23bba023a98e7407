-- The first statement that gives a name again, module by module.
use Rattle.std.proofs.Common.{◌≡◌, ℕ, ◌+◌, ◌<◌, ◌≤◌, List, [], ◌∷◌, ◌++◌, length, drop, get_or, map, Bool, true, false, ◌||◌, cond, filter, is_some, bytes_eq, Option, Some, None, refl, sym, ap, ◌∙◌}
use Rattle.std.specs.List.{find, list_any}
use Rattle.std.specs.Option.{option_map, option_or}
use Rattle.std.proofs.lemmas.List.Folds.{find-append}
use Rattle.std.proofs.lemmas.List.{drop_more, drop_all, map-append}
use Rattle.mintc_netlist.specs.declared.module.Item.{Item}
use Rattle.mintc_netlist.specs.declared.module.Item.TheVariants as item
use Rattle.mintc_netlist.specs.declared.module.Module.{Module}
use Rattle.mintc_text_names.specs.Names.{is_among}
use Rattle.mintc_netlist.specs.Again.{comes_again}
use Rattle.mintc_netlist.specs.Statements.{Statement, statement_of, items_from, module_statements, statements_from, number_of, first_at_fault}
use Rattle.mintc_flatten_hierarchy.specs.Sources.{is_called}
use Rattle.mintc_flatten_hierarchy.specs.Faults.{is_name_twice}
use Rattle.mintc_flatten_rules.specs.Firsts.{first_after}
use Rattle.mintc_flatten_rules.specs.Twice.{first_again, first_again_of}

abbrev names_in : List Module → List (List ℕ)
names_in ms = map (λ (m : Module). m.name) ms

called : (name : List ℕ) (ms : List Module) → list_any (is_called name) ms ≡ is_among name (names_in ms)
called name [] = refl
called name (m ∷ ms) = ap (λ (b : Bool). bytes_eq name m.name || b) (called name ms)

numbered : (b : Bool) (st : Statement) (found : Option Statement) (rest : Option ℕ) → option_map number_of found ≡ rest → option_map number_of (cond b (Some st) found) ≡ cond b (Some (number_of st)) rest
numbered true st found rest h = refl
numbered false st found rest h = h

-- what an item gives again doesn't depend on the modules before
same_item : (earlier : List Module) (m : Module) (before : List Item) (i : Item) → is_name_twice (statement_of earlier m before (Some i)) ≡ is_name_twice (statement_of [] m before (Some i))
same_item earlier m before (item.Port entry output span names) = refl
same_item earlier m before (item.Wire entry span names) = refl
same_item earlier m before (item.Assign entry left right) = refl
same_item earlier m before (item.Instance entry cell name by_name connections) = refl

items_are : (earlier : List Module) (m : Module) (before is : List Item) → option_map number_of (find is_name_twice (items_from earlier m before is)) ≡ first_after is_name_twice m before is
items_are earlier m before [] = refl
items_are earlier m before (i ∷ is) =
    numbered (is_name_twice (statement_of earlier m before (Some i))) (statement_of earlier m before (Some i)) (find is_name_twice (items_from earlier m (before ++ i ∷ []) is))
    (first_after is_name_twice m (before ++ i ∷ []) is) (items_are earlier m (before ++ i ∷ []) is)
    ∙ ap (λ (b : Bool). cond b (Some (number_of (statement_of earlier m before (Some i)))) (first_after is_name_twice m (before ++ i ∷ []) is)) (same_item earlier m before i)

module_is : (earlier : List Module) (m : Module) → option_map number_of (find is_name_twice (module_statements earlier m)) ≡ first_again (names_in earlier) m
module_is earlier m =
    numbered (is_name_twice (statement_of earlier m [] None)) (statement_of earlier m [] None) (find is_name_twice (items_from earlier m [] m.items)) (first_after is_name_twice m [] m.items) (items_are earlier m [] m.items)
    ∙ ap (λ (b : Bool). cond (b || comes_again bytes_eq [] m.ports) (Some m.entry) (first_after is_name_twice m [] m.items)) (called m.name earlier)

either : (a b : Option Statement) → option_map number_of (option_or a b) ≡ option_or (option_map number_of a) (option_map number_of b)
either None b = refl
either (Some x) b = refl

again_from : (earlier ms : List Module) → option_map number_of (find is_name_twice (statements_from earlier ms)) ≡ first_again_of (names_in earlier) ms
again_from earlier [] = refl
again_from earlier (m ∷ ms) =
    ap (option_map number_of) (find-append is_name_twice (module_statements earlier m) (statements_from (earlier ++ m ∷ []) ms))
    ∙ either (find is_name_twice (module_statements earlier m)) (find is_name_twice (statements_from (earlier ++ m ∷ []) ms))
    ∙ ap (λ (o : Option ℕ). option_or o (option_map number_of (find is_name_twice (statements_from (earlier ++ m ∷ []) ms)))) (module_is earlier m)
    ∙ ap (option_or (first_again (names_in earlier) m)) (again_from (earlier ++ m ∷ []) ms)
    ∙ ap (λ (names : List (List ℕ)). option_or (first_again (names_in earlier) m) (first_again_of names ms)) (map-append (λ (x : Module). x.name) earlier (m ∷ []))

-- the first of all modules
pub first_again-is : (ms : List Module) → first_at_fault is_name_twice ms ≡ first_again_of [] ms
first_again-is ms = again_from [] ms

-- one module on, that counts or not
turn : (counts : Module → Bool) (names : List (List ℕ)) (ms : List Module) (n : ℕ) (m : Module) (b : Bool) → n < length ms → m ≡ get_or ms n m → counts m ≡ b →
    first_again_of names (filter counts (drop n ms)) ≡ first_again_of names (cond b (m ∷ filter counts (drop (n + 1) ms)) (filter counts (drop (n + 1) ms)))
turn counts names ms n m b inside same e =
    let front : drop n ms ≡ m ∷ drop (n + 1) ms = drop_more ms n m inside ∙ ap (λ (x : Module). x ∷ drop (n + 1) ms) (sym same) in
    ap (λ (xs : List Module). first_again_of names (filter counts xs)) front
    ∙ ap (λ (b : Bool). first_again_of names (cond b (m ∷ filter counts (drop (n + 1) ms)) (filter counts (drop (n + 1) ms)))) e

pub again_skip : (counts : Module → Bool) (names : List (List ℕ)) (ms : List Module) (n : ℕ) (m : Module) (whole : Option ℕ) → n < length ms → m ≡ get_or ms n m → counts m ≡ false →
    first_again_of names (filter counts (drop n ms)) ≡ whole → first_again_of names (filter counts (drop (n + 1) ms)) ≡ whole
again_skip counts names ms n m whole inside same e left = sym (turn counts names ms n m false inside same e) ∙ left

none_of : (o rest : Option ℕ) → is_some o ≡ false → option_or o rest ≡ rest
none_of None rest h = refl
none_of (Some x) rest h = cc

some_of : (o rest : Option ℕ) → is_some o ≡ true → option_or o rest ≡ o
some_of (Some x) rest h = refl
some_of None rest h = cc

pub none-is : (o : Option ℕ) → is_some o ≡ false → o ≡ None
none-is None h = refl
none-is (Some x) h = cc

pub again_pass : (counts : Module → Bool) (names news : List (List ℕ)) (ms : List Module) (n : ℕ) (m : Module) (found whole : Option ℕ) → n < length ms → m ≡ get_or ms n m → counts m ≡ true →
    found ≡ first_again names m → is_some found ≡ false → news ≡ names ++ m.name ∷ [] →
    first_again_of names (filter counts (drop n ms)) ≡ whole → first_again_of news (filter counts (drop (n + 1) ms)) ≡ whole
again_pass counts names news ms n m found whole inside same e is none longer left =
    ap (λ (s : List (List ℕ)). first_again_of s (filter counts (drop (n + 1) ms))) longer
    ∙ sym (none_of (first_again names m) (first_again_of (names ++ m.name ∷ []) (filter counts (drop (n + 1) ms))) (ap is_some (sym is) ∙ none))
    ∙ sym (turn counts names ms n m true inside same e)
    ∙ left

pub again_found : (counts : Module → Bool) (names : List (List ℕ)) (ms : List Module) (n : ℕ) (m : Module) (found : Option ℕ) → n < length ms → m ≡ get_or ms n m → counts m ≡ true →
    found ≡ first_again names m → is_some found ≡ true → first_again_of names (filter counts (drop n ms)) ≡ first_again_of [] (filter counts ms) → found ≡ first_at_fault is_name_twice (filter counts ms)
again_found counts names ms n m found inside same e is some left =
    is
    ∙ sym (some_of (first_again names m) (first_again_of (names ++ m.name ∷ []) (filter counts (drop (n + 1) ms))) (ap is_some (sym is) ∙ some))
    ∙ sym (turn counts names ms n m true inside same e)
    ∙ left
    ∙ sym (first_again-is (filter counts ms))

pub again_none : (counts : Module → Bool) (names : List (List ℕ)) (ms : List Module) (n : ℕ) → length ms ≤ n → first_again_of names (filter counts (drop n ms)) ≡ first_again_of [] (filter counts ms) →
    None ≡ first_at_fault is_name_twice (filter counts ms)
again_none counts names ms n past left =
    sym (ap (λ (xs : List Module). first_again_of names (filter counts xs)) (drop_all n ms past))
    ∙ left
    ∙ sym (first_again-is (filter counts ms))
