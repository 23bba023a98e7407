-- The fronts of the names in scopes.
use Rattle.std.specs.Prelude.{◌≡◌, ◌<◌, ℕ, List, [], ◌∷◌, ◌++◌, length, flat_map, slice_index_or, if◌then◌else◌, ◌==◌}
use Rattle.std.specs.Prelude.{◌≤◌, All}
use Rattle.mintc_text.specs.Signs.{dot}
use Rattle.mintc_flatten_hierarchy.specs.declared.hierarchy.Hierarchy.{Hierarchy}
use Rattle.mintc_flatten_hierarchy.specs.declared.hierarchy.Scope.{Scope}
use Rattle.mintc_flatten_hierarchy.specs.Shape.{IsInner}
use Rattle.mintc_annotate_resolve.specs.Pins.{scope_path}

-- the names of a path, each with a point behind it
abbrev pub front_of : List (List ℕ) → List ℕ
front_of path = flat_map (λ n. n ++ dot ∷ []) path

-- the fronts of the names in the first so many scopes
pub record AreFronts (h : Hierarchy) (count : ℕ) (fronts : List (List ℕ)) : Type 0 where
  pub size : length fronts ≡ count
  pub each : (s : ℕ) → s < count → slice_index_or fronts s [] ≡ front_of (scope_path h s)

-- the front of a scope, by those of the scopes before it
abbrev pub next_front : List (List ℕ) → ℕ → Scope → List ℕ
next_front fronts number scope = if number == 0 then [] else slice_index_or fronts scope.parent [] ++ scope.name
    ++ dot ∷
    []

-- each scope has its parent before it, each leaf its scope and each bit its scope or leaf
pub record HasNames (h : Hierarchy) : Type 0 where
  pub parents : (s : ℕ) (d : Scope) → 1 ≤ s → s < length h.scopes → (slice_index_or h.scopes s d).parent < s
  pub leaves : All (λ l. l.scope < length h.scopes) h.leaves
  pub inner : All (IsInner h) h.inner
