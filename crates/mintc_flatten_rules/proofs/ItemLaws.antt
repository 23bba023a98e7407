-- The first item at fault among those of a module.
use Rattle.std.proofs.Common.{◌≡◌, ℕ, ◌+◌, ◌<◌, ◌≤◌, List, [], length, take, drop, get_or, Bool, true, false, cond, Option, Some, None, map, sym, ap, subst, ◌∙◌}
use Rattle.std.proofs.lemmas.List.{get_or-map}
use Rattle.mintc_netlist.specs.declared.module.Item.{Item}
use Rattle.mintc_netlist.specs.declared.module.Module.{Module}
use Rattle.mintc_netlist.specs.Ordinary.{entry_of}
use Rattle.mintc_netlist.specs.Statements.{Statement, statement_of}
use Rattle.mintc_flatten_hierarchy.specs.declared.bindings.Binding.{Binding}
use Rattle.mintc_flatten_hierarchy.specs.Sources.{Source, binding_in, bindings_in}
use Rattle.mintc_flatten_binding.specs.Orders.{IsThere}
use Rattle.mintc_flatten_binding.proofs.SharedThereLaws.{there}
use Rattle.mintc_flatten_rules.specs.Firsts.{first_in, first_after}
use Rattle.mintc_flatten_rules.proofs.FirstLaws.{first_after-turn, first_after-end, first_in-is}

-- an item that is at fault is the first where what is left has the first, and where none is left there is none
pub item-found : (test : Statement → Bool) (m : Module) (is : List Item) (n : ℕ) (i : Item) (entry : ℕ) → n < length is → i ≡ get_or is n i → is ≡ m.items →
    first_after test m (take n is) (drop n is) ≡ first_after test m [] is →
    test (statement_of [] m (take n is) (Some i)) ≡ true → entry ≡ entry_of i → Some entry ≡ first_after test m [] m.items
item-found test m is n i entry inside same items left here number =
    ap Some number
    ∙ sym (ap (λ (b : Bool). cond b (Some (entry_of i)) (first_after test m (take (n + 1) is) (drop (n + 1) is))) here)
    ∙ sym (first_after-turn test m is n i inside (sym same))
    ∙ left
    ∙ ap (first_after test m []) items

pub items-none : (test : Statement → Bool) (m : Module) (is : List Item) (n : ℕ) → length is ≤ n → is ≡ m.items →
    first_after test m (take n is) (drop n is) ≡ first_after test m [] is → None ≡ first_after test m [] m.items
items-none test m is n past items left = sym (first_after-end test m is n past) ∙ left ∙ ap (first_after test m []) items

-- an item that isn't at fault is passed
pub item-passed : (test : Statement → Bool) (m : Module) (is : List Item) (n : ℕ) (i : Item) (whole : Option ℕ) → n < length is → i ≡ get_or is n i →
    first_after test m (take n is) (drop n is) ≡ whole → test (statement_of [] m (take n is) (Some i)) ≡ false →
    first_after test m (take (n + 1) is) (drop (n + 1) is) ≡ whole
item-passed test m is n i whole inside same left here =
    sym (ap (λ (b : Bool). cond b (Some (entry_of i)) (first_after test m (take (n + 1) is) (drop (n + 1) is))) here)
    ∙ sym (first_after-turn test m is n i inside (sym same))
    ∙ left

-- a module's own statement comes first
pub own-found : (test : Statement → Bool) (m : Module) → test (statement_of [] m [] None) ≡ true → Some m.entry ≡ first_in test m
own-found test m here = sym (ap (λ (b : Bool). cond b (Some m.entry) (first_after test m [] m.items)) here) ∙ sym (first_in-is test m)

pub own-passed : (test : Statement → Bool) (m : Module) (found : Option ℕ) → test (statement_of [] m [] None) ≡ false → found ≡ first_after test m [] m.items → found ≡ first_in test m
own-passed test m found here is = is ∙ sym (ap (λ (b : Bool). cond b (Some m.entry) (first_after test m [] m.items)) here) ∙ sym (first_in-is test m)

-- what is kept of a module at the place of an item is the binding of that item, and is there
pub binding_read : (s : Source) (m : Module) (ts : List Binding) (is : List Item) (n : ℕ) (i : Item) (d : Binding) → ts ≡ bindings_in s m → is ≡ m.items → n < length is → i ≡ get_or is n i →
    get_or ts n d ≡ binding_in s i
binding_read s m ts is n i d bindings items inside same =
    ap (λ (l : List Binding). get_or l n d) (bindings ∙ ap (map (binding_in s)) (sym items)) ∙ get_or-map (binding_in s) is n i d inside ∙ ap (binding_in s) (sym same)

pub binding_there : (s : Source) (m : Module) (ts : List Binding) (is : List Item) (n : ℕ) (i : Item) (d : Binding) → ts ≡ bindings_in s m → is ≡ m.items → n < length is → i ≡ get_or is n i →
    IsThere s (get_or ts n d)
binding_there s m ts is n i d bindings items inside same = subst (IsThere s) (sym (binding_read s m ts is n i d bindings items inside same)) (there s i)
