-- The first statement at fault, statement by statement.
use Rattle.std.proofs.Common.{◌≡◌, ℕ, ◌+◌, ◌<◌, ◌≤◌, List, [], ◌∷◌, ◌++◌, length, take, drop, get_or, Bool, true, false, cond, filter, is_some, Option, Some, None, refl, sym, ap, ◌∙◌}
use Rattle.std.specs.List.{find}
use Rattle.std.specs.Option.{option_map, option_or}
use Rattle.std.proofs.lemmas.List.Folds.{find-append}
use Rattle.std.proofs.lemmas.List.{drop_more, take_more, drop_all}
use Rattle.mintc_netlist.specs.declared.module.Item.{Item}
use Rattle.mintc_netlist.specs.declared.module.Module.{Module}
use Rattle.mintc_netlist.specs.Ordinary.{entry_of}
use Rattle.mintc_netlist.specs.Statements.{Statement, statement_of, items_from, module_statements, statements_from, number_of, first_at_fault}
use Rattle.mintc_flatten_rules.specs.Firsts.{first_in, first_after, first_of, IsOfModule}

found_one : (test : Statement → Bool) (st : Statement) (more : List Statement) (rest : Option ℕ) (b : Bool) → option_map number_of (find test more) ≡ rest →
    option_map number_of (cond b (Some st) (find test more)) ≡ cond b (Some (number_of st)) rest
found_one test st more rest true h = refl
found_one test st more rest false h = h

-- the first among items is found item by item
pub first_after-is : (test : Statement → Bool) (m : Module) (before is : List Item) → option_map number_of (find test (items_from [] m before is)) ≡ first_after test m before is
first_after-is test m before [] = refl
first_after-is test m before (i ∷ is) =
    found_one test (statement_of [] m before (Some i)) (items_from [] m (before ++ i ∷ []) is) (first_after test m (before ++ i ∷ []) is) (test (statement_of [] m before (Some i))) (first_after-is test m (before ++ i ∷ []) is)

-- the first of a module is its own statement, or the first among its items
pub first_in-is : (test : Statement → Bool) (m : Module) → first_in test m ≡ cond (test (statement_of [] m [] None)) (Some m.entry) (first_after test m [] m.items)
first_in-is test m = found_one test (statement_of [] m [] None) (items_from [] m [] m.items) (first_after test m [] m.items) (test (statement_of [] m [] None)) (first_after-is test m [] m.items)

-- one item on
pub first_after-turn : (test : Statement → Bool) (m : Module) (is : List Item) (n : ℕ) (i : Item) → n < length is → get_or is n i ≡ i →
    first_after test m (take n is) (drop n is) ≡ cond (test (statement_of [] m (take n is) (Some i))) (Some (entry_of i)) (first_after test m (take (n + 1) is) (drop (n + 1) is))
first_after-turn test m is n i inside same =
    let here : drop n is ≡ i ∷ drop (n + 1) is = drop_more is n i inside ∙ ap (λ (x : Item). x ∷ drop (n + 1) is) same in
    let more : take (n + 1) is ≡ take n is ++ i ∷ [] = take_more is n i inside ∙ ap (λ (x : Item). take n is ++ x ∷ []) same in
    ap (first_after test m (take n is)) here ∙ ap (λ (front : List Item). cond (test (statement_of [] m (take n is) (Some i))) (Some (entry_of i)) (first_after test m front (drop (n + 1) is))) (sym more)

-- behind the last item
pub first_after-end : (test : Statement → Bool) (m : Module) (is : List Item) (n : ℕ) → length is ≤ n → first_after test m (take n is) (drop n is) ≡ None
first_after-end test m is n past = ap (first_after test m (take n is)) (drop_all n is past)

-- An item that is found is the first of its module, and where all are passed there is none. The module's own statement isn't at fault.
pub first-found : (test : Statement → Bool) (m : Module) (is : List Item) (n : ℕ) (i : Item) (entry : ℕ) → n < length is → i ≡ get_or is n i → is ≡ m.items →
    test (statement_of [] m [] None) ≡ false → first_after test m (take n is) (drop n is) ≡ first_after test m [] is →
    test (statement_of [] m (take n is) (Some i)) ≡ true → entry ≡ entry_of i → Some entry ≡ first_in test m
first-found test m is n i entry inside same items own left here number =
    ap Some number
    ∙ sym (ap (λ (b : Bool). cond b (Some (entry_of i)) (first_after test m (take (n + 1) is) (drop (n + 1) is))) here)
    ∙ sym (first_after-turn test m is n i inside (sym same))
    ∙ left
    ∙ ap (first_after test m []) items
    ∙ sym (ap (λ (b : Bool). cond b (Some m.entry) (first_after test m [] m.items)) own)
    ∙ sym (first_in-is test m)

pub first-none : (test : Statement → Bool) (m : Module) (is : List Item) (n : ℕ) → length is ≤ n → is ≡ m.items →
    test (statement_of [] m [] None) ≡ false → first_after test m (take n is) (drop n is) ≡ first_after test m [] is → None ≡ first_in test m
first-none test m is n past items own left =
    sym (first_after-end test m is n past)
    ∙ left
    ∙ ap (first_after test m []) items
    ∙ sym (ap (λ (b : Bool). cond b (Some m.entry) (first_after test m [] m.items)) own)
    ∙ sym (first_in-is test m)

-- Tests of one module's statements.
same_step : (st st' : Statement) (b b' : Bool) (found found' : Option Statement) → b ≡ b' → number_of st ≡ number_of st' → option_map number_of found ≡ option_map number_of found' →
    option_map number_of (cond b (Some st) found) ≡ option_map number_of (cond b' (Some st') found')
same_step st st' true b' found found' e n h = rw (← e) (ap Some n)
same_step st st' false b' found found' e n h = rw (← e) h

same_items : (test : Statement → Bool) → IsOfModule test → (earlier : List Module) (m : Module) (before is : List Item) →
    option_map number_of (find test (items_from earlier m before is)) ≡ option_map number_of (find test (items_from [] m before is))
same_items test own earlier m before [] = refl
same_items test own earlier m before (i ∷ is) =
    same_step (statement_of earlier m before (Some i)) (statement_of [] m before (Some i)) (test (statement_of earlier m before (Some i))) (test (statement_of [] m before (Some i)))
    (find test (items_from earlier m (before ++ i ∷ []) is)) (find test (items_from [] m (before ++ i ∷ []) is)) (own earlier m before (Some i)) refl (same_items test own earlier m (before ++ i ∷ []) is)

same_module : (test : Statement → Bool) → IsOfModule test → (earlier : List Module) (m : Module) → option_map number_of (find test (module_statements earlier m)) ≡ first_in test m
same_module test own earlier m =
    same_step (statement_of earlier m [] None) (statement_of [] m [] None) (test (statement_of earlier m [] None)) (test (statement_of [] m [] None))
    (find test (items_from earlier m [] m.items)) (find test (items_from [] m [] m.items)) (own earlier m [] None) refl (same_items test own earlier m [] m.items)

map_or : (a b : Option Statement) → option_map number_of (option_or a b) ≡ option_or (option_map number_of a) (option_map number_of b)
map_or None b = refl
map_or (Some x) b = refl

first_from : (test : Statement → Bool) → IsOfModule test → (earlier ms : List Module) → option_map number_of (find test (statements_from earlier ms)) ≡ first_of test ms
first_from test own earlier [] = refl
first_from test own earlier (m ∷ ms) =
    ap (option_map number_of) (find-append test (module_statements earlier m) (statements_from (earlier ++ m ∷ []) ms))
    ∙ map_or (find test (module_statements earlier m)) (find test (statements_from (earlier ++ m ∷ []) ms))
    ∙ ap (λ (o : Option ℕ). option_or o (option_map number_of (find test (statements_from (earlier ++ m ∷ []) ms)))) (same_module test own earlier m)
    ∙ ap (option_or (first_in test m)) (first_from test own (earlier ++ m ∷ []) ms)

-- the first at fault of all modules, module by module
pub first_at_fault-is : (test : Statement → Bool) → IsOfModule test → (ms : List Module) → first_at_fault test ms ≡ first_of test ms
first_at_fault-is test own ms = first_from test own [] ms

kept : (a : Option ℕ) (b : Option ℕ) → is_some a ≡ true → option_or a b ≡ a
kept (Some x) b h = refl
kept None b h = cc

-- what is found in a module is the first of all, where none was in those before it; and where all are passed there is none
pub modules-found : (test : Statement → Bool) (counts : Module → Bool) → IsOfModule test → (ms : List Module) (n : ℕ) (m : Module) (found : Option ℕ) → n < length ms → m ≡ get_or ms n m →
    counts m ≡ true → found ≡ first_in test m → is_some found ≡ true → first_of test (filter counts (drop n ms)) ≡ first_of test (filter counts ms) → found ≡ first_at_fault test (filter counts ms)
modules-found test counts own ms n m found inside same live here some left =
    let front : drop n ms ≡ m ∷ drop (n + 1) ms = drop_more ms n m inside ∙ ap (λ (x : Module). x ∷ drop (n + 1) ms) (sym same) in
    let there : is_some (first_in test m) ≡ true = ap is_some (sym here) ∙ some in
    here
    ∙ sym (kept (first_in test m) (first_of test (filter counts (drop (n + 1) ms))) there)
    ∙ sym (ap (λ (b : Bool). first_of test (cond b (m ∷ filter counts (drop (n + 1) ms)) (filter counts (drop (n + 1) ms)))) live)
    ∙ sym (ap (λ (xs : List Module). first_of test (filter counts xs)) front)
    ∙ left
    ∙ sym (first_at_fault-is test own (filter counts ms))

pub modules-none : (test : Statement → Bool) (counts : Module → Bool) → IsOfModule test → (ms : List Module) (n : ℕ) → length ms ≤ n →
    first_of test (filter counts (drop n ms)) ≡ first_of test (filter counts ms) → None ≡ first_at_fault test (filter counts ms)
modules-none test counts own ms n past left =
    sym (ap (λ (xs : List Module). first_of test (filter counts xs)) (drop_all n ms past))
    ∙ left
    ∙ sym (first_at_fault-is test own (filter counts ms))
