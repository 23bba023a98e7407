-- A search from a module along instantiations for a module of a name.
use Rattle.std.specs.Prelude.{◌≡◌, ◌<◌, ◌≤◌, ◌+◌, ℕ, Bool, true, false, cond, List, [], ◌∷◌, ◌++◌, length, fold}
use Rattle.std.specs.Prelude.{slice_index, slice_set, IfSome}
use Rattle.std.specs.List.{AllByRecursion}
use Rattle.std.specs.Option.{option_map_or}
use Rattle.mintc_flatten_hierarchy.specs.declared.bindings.Binding.{Binding}
use Rattle.mintc_flatten_hierarchy.specs.Sources.{Source, module_at, is_called, scope_number, bindings_in}
use Rattle.mintc_flatten_hierarchy.specs.Faults.{leads}
use Rattle.mintc_flatten_binding.specs.Orders.{mark_at}

-- The modules that are found, in this order, and marks for them.
pub record Found : Type 0 where
  pub visited : List ℕ
  pub seen : List Bool

-- one more module, and what some bindings instantiate
abbrev pub with_module : Found → ℕ → Found
with_module f k = cond (mark_at f.seen k) f (record { visited = f.visited ++ k ∷ []; seen = slice_set f.seen k true })

-- what a binding instantiates, if anything
abbrev pub with_binding : Found → Binding → Found
with_binding f t = option_map_or (with_module f) (scope_number t) f

-- what some bindings instantiate
abbrev pub with_bindings : Found → List Binding → Found
with_bindings f ts = fold with_binding f ts

-- what a binding instantiates, if anything, is marked
abbrev pub IsMarked : List Bool → Binding → Type 0
IsMarked seen t = IfSome (scope_number t) (λ k. mark_at seen k ≡ true)

-- Where module k leads to the name, the start does, with so many instantiations more.
abbrev pub IsBehind : Source → List ℕ → ℕ → ℕ → ℕ → Type 0
IsBehind s name start more k = (most : ℕ) → leads s most name k ≡ true → leads s (most + more) name start ≡ true

-- The modules that are found begin with the start; each is at most as many instantiations behind it as its place
-- says; and what is marked is found.
pub record IsFound (s : Source) (name : List ℕ) (start : ℕ) (f : Found) : Type 0 where
  pub each : length f.seen ≡ length s.modules
  pub within : (i : ℕ) → i < length f.visited → slice_index f.visited i < length s.modules
  pub some : 0 < length f.visited
  pub first : slice_index f.visited 0 ≡ start
  pub behind : (i : ℕ) → i < length f.visited → IsBehind s name start i (slice_index f.visited i)
  pub marked : (k : ℕ) → mark_at f.seen k ≡ true → (i : ℕ) × (i < length f.visited) × (slice_index f.visited i ≡ k)

-- The first of them don't have the name, and all that they instantiate is marked.
pub record ArePassed (s : Source) (name : List ℕ) (f : Found) (n : ℕ) : Type 0 where
  pub most : n ≤ length f.visited
  pub other : (i : ℕ) → i < n → is_called name (module_at s (slice_index f.visited i)) ≡ false
  pub bindings : (i : ℕ) → i < n →
      AllByRecursion (IsMarked f.seen) (bindings_in s (module_at s (slice_index f.visited i)))
