-- What holds while a search gives out each module behind those that it instantiates.
use Rattle.std.specs.Prelude.{◌≡◌, ◌<◌, ◌+◌, ℕ, List, length, slice_index, take, min}
use Rattle.std.specs.List.{AllByRecursion, sum_by}
use Rattle.mintc_flatten_hierarchy.specs.declared.bindings.Binding.{Binding}
use Rattle.mintc_flatten_hierarchy.specs.declared.bindings.Binding.TheVariants.{OfModule}
use Rattle.mintc_flatten_binding.specs.declared.order.PostOrder.{PostOrder}
use Rattle.mintc_flatten_hierarchy.specs.Sources.{Source, module_at, bindings_in}
use Rattle.mintc_flatten_binding.specs.Orders.{Stands}

-- what a binding instantiates, if anything, is given out
abbrev pub IsPlaced : List ℕ → Binding → Type 0
IsPlaced places (OfModule k) = 0 < slice_index places k
IsPlaced places _ = Unit {0}

-- A search over the modules, at any moment: `places` has for each module one more than its place in the order, or
-- 0; of each module so many items are passed.
pub record IsOrdering (s : Source) (order places nexts : List ℕ) : Type 0 where
  pub each_place : length places ≡ length s.modules
  pub each_next : length nexts ≡ length s.modules
  pub placed : (k p : ℕ) → slice_index places k ≡ p + 1 → (p < length order) × (slice_index order p ≡ k)
  pub passed : (m : ℕ) → m < length s.modules →
      AllByRecursion (IsPlaced places) (take (slice_index nexts m) (bindings_in s (module_at s m)))
  pub behind : (i : ℕ) → i < length order →
      AllByRecursion (Stands order i) (bindings_in s (module_at s (slice_index order i)))
  pub number : (i : ℕ) → i < length order → slice_index order i < length s.modules
  pub count : sum_by (λ p. min p 1) places ≡ length order

-- the same of the search as the code has it
abbrev pub IsOrderingOf : Source → PostOrder → Type 0
IsOrderingOf s o = IsOrdering s o.order.items o.places.items o.nexts.items
