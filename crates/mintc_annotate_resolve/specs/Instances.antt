-- Instances by their names: what an index of them holds.
use Rattle.std.specs.Prelude.{◌≡◌, ◌<◌, ℕ, ◌/◌, ◌%◌, List, [], ◌∷◌, ◌++◌, length, slice_index_or, position, Option}
use Rattle.std.specs.Prelude.{Some, bytes_eq, Vec}
use Rattle.std.specs.List.{range_with_len}
use Rattle.std.specs.HashMap.{HashMap, get_by}
use Rattle.std.specs.Global.{Global}
use Rattle.mintc_flatten_hierarchy.specs.declared.hierarchy.Hierarchy.{Hierarchy}
use Rattle.mintc_annotate_resolve.specs.Pins.{scope_path, leaf_path}
use Rattle.mintc_annotate_resolve.specs.Resolution.{same_path, leaf_called}
use Rattle.mintc_annotate_resolve.specs.declared.instances.Instances.{Instances}
use Rattle.mintc_annotate_resolve.specs.declared.instances.Instance.{Instance}

-- the key of a name in a scope: the four bytes of its number, and the name
abbrev pub key_of : ℕ → List ℕ → List ℕ
key_of scope name = scope % 256 ∷ scope / 256 % 256 ∷ scope / 256 / 256 % 256 ∷ scope / 256 / 256 / 256 ∷ name

-- some vector has these bytes
abbrev pub IsKey : List ℕ → Type 0
IsKey key = (k : Vec ℕ Global) × (k.items ≡ key)

-- what a map has at a key
module _ {S : Type 0} where
  abbrev pub seen : HashMap (Vec ℕ Global) ℕ S → List ℕ → Option ℕ
  seen m key = get_by (λ k. bytes_eq key k.items) m

-- the first of so many whose path is this
abbrev pub called : (ℕ → List (List ℕ)) → ℕ → List (List ℕ) → Option ℕ
called paths count path = position (λ n. same_path (paths n) path) (range_with_len 0 count)

-- the first scope of a path
abbrev pub scope_called : Hierarchy → List (List ℕ) → Option ℕ
scope_called h path = called (scope_path h) (length h.scopes) path

-- no scope before it has its path
abbrev pub IsFirst : Hierarchy → ℕ → Type 0
IsFirst h s = scope_called h (scope_path h s) ≡ Some s

-- of each scope, the first that has its path
pub record AreFirst (h : Hierarchy) (count : ℕ) (firsts : List ℕ) : Type 0 where
  pub size : length firsts ≡ count
  pub each : (s : ℕ) → s < count → scope_called h (scope_path h s) ≡ Some (slice_index_or firsts s 0)

module _ {S : Type 0} where
  -- the map has what stands in each scope, of the first so many
  abbrev pub AreSeen : Hierarchy → (ℕ → List (List ℕ)) → ℕ → HashMap (Vec ℕ Global) ℕ S → Type 0
  AreSeen h paths count m = (s : ℕ) → IsFirst h s → (name : List ℕ) → IsKey (key_of s name) →
      seen m (key_of s name) ≡ called paths count (scope_path h s ++ name ∷ [])

-- all scopes and leaves by their names
pub record AreIndexed (h : Hierarchy) (index : Instances) : Type 0 where
  pub scopes : AreSeen h (scope_path h) (length h.scopes) index.scopes
  pub leaves : AreSeen h (leaf_path h) (length h.leaves) index.leaves

-- the scope and the leaf of a path
pub record IsAt (h : Hierarchy) (path : List (List ℕ)) (instance : Instance) : Type 0 where
  pub scope : instance.scope ≡ scope_called h path
  pub leaf : instance.leaf ≡ leaf_called h path
