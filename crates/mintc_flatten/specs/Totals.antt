-- How many scopes, leaves and inner bits stand in a module, counted without the walk.
use Rattle.std.specs.Prelude.{◌≡◌, ◌<◌, ℕ, zero, suc, List, [], ◌∷◌, length, min, slice_index, slice_index_or}
use Rattle.mintc_text.specs.declared.limits.TheConstants.{MOST_TOLD}
use Rattle.mintc_netlist.specs.declared.module.Module.{Module}
use Rattle.mintc_netlist.specs.Nets.{nets_of}
use Rattle.mintc_flatten_hierarchy.specs.declared.bindings.Binding.{Binding}
use Rattle.mintc_flatten_hierarchy.specs.declared.bindings.Binding.TheVariants.{OfCell, OfModule, OfNothing}
use Rattle.mintc_flatten.specs.declared.counts.Count.{Count}
use Rattle.mintc_flatten_hierarchy.specs.Sources.{Source, module_at, bindings_in}
use Rattle.mintc_flatten_hierarchy.specs.Walks.{Counts, counts, plus, size_of, depth, deepest}

-- some bindings, each by itself and with what stands inside it
abbrev pub sum_of : Source → (Binding → Counts) → List Binding → Counts
sum_of s inside [] = counts 0 0 0
sum_of s inside (t ∷ ts) = plus (plus (size_of s t) (inside t)) (sum_of s inside ts)

-- what stands inside a binding, by what stands inside the bindings of its items
abbrev pub content_by : Source → (Binding → Counts) → Binding → Counts
content_by s inside (OfModule k) = sum_of s inside (bindings_in s (module_at s k))
content_by s inside _ = counts 0 0 0

-- what stands inside a binding, so many instances deep
abbrev pub content : Source → ℕ → Binding → Counts
content s zero t = counts 0 0 0
content s (suc deep) t = content_by s (content s deep) t

-- what the hierarchy from a module has
abbrev pub all_in : Source → ℕ → Counts
all_in s top = plus (size_of s (OfModule top)) (content s (suc (length s.modules)) (OfModule top))

-- what a binding has with all that stands inside it
abbrev pub part : Source → Binding → Counts
part s (OfModule k) = all_in s k
part s t = size_of s t

-- what some bindings have with all that stands inside them
abbrev pub sum_parts : Source → List Binding → Counts
sum_parts s [] = counts 0 0 0
sum_parts s (t ∷ ts) = plus (part s t) (sum_parts s ts)

-- counts up to the greatest that is told
abbrev pub capped : ℕ → ℕ
capped n = min n MOST_TOLD

-- counts and a depth as they are kept
pub record IsCapped (c : Counts) (d : ℕ) (count : Count) : Type 0 where
  pub scopes : count.scopes ≡ capped c.scopes
  pub leaves : count.leaves ≡ capped c.leaves
  pub inner : count.inner ≡ capped c.inner
  pub depth : count.depth ≡ d

-- what is counted of the hierarchy from a module
abbrev pub IsCount : Source → ℕ → Count → Type 0
IsCount s k count = IsCapped (all_in s k) (depth s (length s.modules) k) count

-- a count that stands for those past the end of a table
abbrev pub no_count : Count
no_count = record { scopes = 0; leaves = 0; inner = 0; depth = 0 }

-- The binding is there, and if it is a module, it is counted.
abbrev pub IsCounted : Source → List Count → Binding → Type 0
IsCounted s table (OfCell n) = n < length s.cells
IsCounted s table (OfModule k) = (k < length table) × IsCount s k (slice_index_or table k no_count)
IsCounted s table OfNothing = Unit {0}

-- how deep a binding is
abbrev pub depth_of : Source → Binding → ℕ
depth_of s (OfModule k) = depth s (length s.modules) k
depth_of s _ = 0

-- how deep the deepest of some bindings is
abbrev pub greatest_depth : Source → List Binding → ℕ
greatest_depth s ts = deepest (depth s (length s.modules)) ts

-- how many bits the nets of a module have, capped
abbrev pub net_count : Module → ℕ
net_count m = capped (length (nets_of m))

-- the first n modules of an order are counted
pub record AreCounted (s : Source) (order : List ℕ) (n : ℕ) (table : List Count) : Type 0 where
  pub each : (i : ℕ) → i < n → IsCount s (slice_index order i) (slice_index_or table (slice_index order i) no_count)
