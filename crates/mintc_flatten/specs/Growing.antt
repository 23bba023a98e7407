-- The lists of a hierarchy while they grow, step by step.
use Rattle.std.specs.Prelude.{List, [], ◌∷◌, ◌++◌, length}
use Rattle.std.specs.Option.{option_to_list}
use Rattle.mintc_flatten_hierarchy.specs.declared.bindings.Binding.{Binding}
use Rattle.mintc_flatten_hierarchy.specs.declared.hierarchy.Scope.{Scope}
use Rattle.mintc_flatten_hierarchy.specs.declared.hierarchy.Leaf.{Leaf}
use Rattle.mintc_flatten_hierarchy.specs.declared.hierarchy.Inner.{Inner}
use Rattle.mintc_flatten_hierarchy.specs.declared.hierarchy.Join.{Join}
use Rattle.mintc_flatten_hierarchy.specs.Sources.{Source, binding_in}
use Rattle.mintc_flatten_hierarchy.specs.Walks.{Counts, counts, Step}
use Rattle.mintc_flatten_hierarchy.specs.Hierarchies.{scope_in, leaf_in, inner_in, joins_in}

-- the lists of a hierarchy, but for its ports
pub record Lists : Type 0 where
  pub scopes : List Scope
  pub leaves : List Leaf
  pub inner : List Inner
  pub joins : List Join

-- these lists by themselves
abbrev pub lists : List Scope → List Leaf → List Inner → List Join → Lists
lists scopes leaves inner joins = record { scopes = scopes; leaves = leaves; inner = inner; joins = joins }

-- how many scopes, leaves and inner bits they have
abbrev pub sizes : Lists → Counts
sizes l = counts (length l.scopes) (length l.leaves) (length l.inner)

-- the lists after a step, with what its item is an instance of, and after some steps
abbrev pub grown_by : Source → Lists → Step → Binding → Lists
grown_by s l step t = lists (l.scopes ++ option_to_list (scope_in step t)) (l.leaves ++ option_to_list (leaf_in step t))
    (l.inner ++ inner_in s step t) (l.joins ++ joins_in s step step.item)

-- the lists after a step
abbrev pub grown : Source → Lists → Step → Lists
grown s l step = grown_by s l step (binding_in s step.item)

-- the lists after some steps
abbrev pub grown_all : Source → Lists → List Step → Lists
grown_all s l [] = l
grown_all s l (step ∷ steps) = grown_all s (grown s l step) steps
