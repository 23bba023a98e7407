-- Which modules are instantiated, as marks.
use Rattle.std.specs.Prelude.{◌≡◌, ◌<◌, ℕ, nat_eq, Bool, false, not, ◌||◌, List, length, take, filter}
use Rattle.std.specs.List.{list_any}
use Rattle.mintc_flatten_hierarchy.specs.declared.bindings.Binding.{Binding}
use Rattle.mintc_flatten_hierarchy.specs.Sources.{Source, is_stub}
use Rattle.mintc_flatten_hierarchy.specs.Refusals.{instantiates}
use Rattle.mintc_flatten_hierarchy.specs.declared.bindings.Binding.TheVariants.{OfModule}
use Rattle.mintc_flatten_binding.specs.Orders.{mark_at}

-- whether a binding is the module of a number, and whether some binding is
abbrev pub is_module : ℕ → Binding → Bool
is_module k (OfModule j) = nat_eq k j
is_module k _ = false

-- whether some binding is the module of a number
abbrev pub is_any_module : List Binding → ℕ → Bool
is_any_module ts k = list_any (is_module k) ts

-- The marks are those before, and those of further modules.
pub record Marks (before after : List Bool) (more : ℕ → Bool) : Type 0 where
  pub same_length : length after ≡ length before
  pub each : (k : ℕ) → k < length before → mark_at after k ≡ (mark_at before k || more k)

-- The marks are of the modules that some of the first n modules, stubs left out, instantiate.
pub record AreMarks (s : Source) (n : ℕ) (marks : List Bool) : Type 0 where
  pub same_length : length marks ≡ length s.modules
  pub each : (k : ℕ) → k < length s.modules →
      mark_at marks k ≡ list_any (instantiates s k) (filter (λ m. not (is_stub s m)) (take n s.modules))
