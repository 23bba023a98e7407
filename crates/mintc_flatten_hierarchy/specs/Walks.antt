-- The walk from the top down. Scopes, leaves and inner bits have their numbers by its order: each item of a scope in
-- turn, and behind it all that stands inside it; a number is how many come before.
use Rattle.std.specs.Prelude.{ℕ, zero, suc, ◌+◌, List, [], ◌∷◌, ◌++◌, length, max}
use Rattle.mintc_netlist.specs.declared.module.Item.{Item}
use Rattle.mintc_netlist.specs.declared.module.Module.{Module}
use Rattle.mintc_netlist.specs.Nets.{nets_of}
use Rattle.mintc_flatten_hierarchy.specs.declared.bindings.Binding.{Binding}
use Rattle.mintc_flatten_hierarchy.specs.declared.bindings.Binding.TheVariants.{OfCell, OfModule, OfNothing}
use Rattle.mintc_flatten_hierarchy.specs.Sources.{Source, module_at, cell_at, binding_in, bindings_in, pins_of}

-- so many scopes, leaves and inner bits
pub record Counts : Type 0 where
  pub scopes : ℕ
  pub leaves : ℕ
  pub inner : ℕ

-- counts by their numbers
abbrev pub counts : ℕ → ℕ → ℕ → Counts
counts scopes leaves inner = record { scopes = scopes; leaves = leaves; inner = inner }

-- two counts together
abbrev pub plus : Counts → Counts → Counts
plus a b = counts (a.scopes + b.scopes) (a.leaves + b.leaves) (a.inner + b.inner)

-- what an instance has by itself: a leaf its pins, a scope its nets
abbrev pub size_of : Source → Binding → Counts
size_of s (OfCell n) = counts 0 1 (length (pins_of (cell_at s n)))
size_of s (OfModule k) = counts 1 0 (length (nets_of (module_at s k)))
size_of s OfNothing = counts 0 0 0

-- A scope by its module, its number and its first inner bit.
pub record Place : Type 0 where
  pub module_nets : Module
  pub scope : ℕ
  pub first : ℕ

-- a place by its parts
abbrev pub place_at : Module → ℕ → ℕ → Place
place_at module_nets scope first = record { module_nets = module_nets; scope = scope; first = first }

-- A step of the walk: an item of a scope, and how many scopes, leaves and inner bits come before it.
pub record Step : Type 0 where
  pub place : Place
  pub before : Counts
  pub item : Item

-- a step by its parts
abbrev pub step_at : Place → Counts → Item → Step
step_at place before item = record { place = place; before = before; item = item }

-- how many scopes, leaves and inner bits some steps bring, and how many there are after them
abbrev pub total : Source → List Step → Counts
total s [] = counts 0 0 0
total s (step ∷ steps) = plus (size_of s (binding_in s step.item)) (total s steps)

-- how many there are after some steps
abbrev pub after : Source → Counts → List Step → Counts
after s before steps = plus before (total s steps)

-- The steps of some items of a scope, where so many scopes, leaves and inner bits come before them: each item, and
-- then all that stands inside it.
abbrev pub steps_from : Source → (Counts → Item → List Step) → Place → Counts → List Item → List Step
steps_from s inside place before [] = []
steps_from s inside place before (i ∷ is) =
    (step_at place before i ∷ inside before i)
    ++ steps_from s inside place (after s before (step_at place before i ∷ inside before i)) is

-- the steps inside an instance of a module
abbrev pub steps_inside : Source → (Counts → Item → List Step) → Counts → Binding → List Step
steps_inside s inside before (OfModule k) =
    steps_from s inside (place_at (module_at s k) before.scopes before.inner) (plus before (size_of s (OfModule k)))
    (module_at s k).items
steps_inside s inside before _ = []

-- all that stands inside an item, to so many instances in one another
abbrev pub inside : Source → ℕ → Counts → Item → List Step
inside s zero before i = []
inside s (suc deep) before i = steps_inside s (inside s deep) before (binding_in s i)

-- The walk from a module. No chain of instantiations has more modules than there are, where none is closed.
abbrev pub walk : Source → ℕ → List Step
walk s top = steps_inside s (inside s (length s.modules)) (counts 0 0 0) (OfModule top)

-- how many scopes stand in one another, from a module on
abbrev pub deepest : (ℕ → ℕ) → List Binding → ℕ
deepest depth [] = 0
deepest depth (OfCell n ∷ ts) = deepest depth ts
deepest depth (OfModule k ∷ ts) = max (depth k) (deepest depth ts)
deepest depth (OfNothing ∷ ts) = deepest depth ts

-- how many scopes stand in one another from a module on, within so many instantiations
abbrev pub depth : Source → ℕ → ℕ → ℕ
depth s zero k = 1
depth s (suc deep) k = suc (deepest (depth s deep) (bindings_in s (module_at s k)))
