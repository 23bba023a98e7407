-- Why a netlist has no hierarchy: the first of its refusals.
use Rattle.std.specs.Prelude.{◌≡◌, ℕ, nat_eq, Bool, not, ◌&&◌, Option, None, Some, List, [], ◌∷◌, length}
use Rattle.std.specs.Prelude.{filter}
use Rattle.std.specs.List.{list_any, range_with_len}
use Rattle.std.specs.Option.{option_or, option_map}
use Rattle.mintc_text.specs.declared.limits.Most.{Most}
use Rattle.mintc_text.specs.declared.limits.TheConstants.{MOST_DEPTH}
use Rattle.mintc_text.specs.declared.refusals.Kind.{Kind}
use Rattle.mintc_text.specs.declared.refusals.Kind.TheVariants as kind
use Rattle.mintc_text.specs.declared.refusals.Refusal.{Refusal}
use Rattle.mintc_text.specs.declared.refusals.Refusal.TheVariants as refusal
use Rattle.mintc_text.specs.Refusals.{over_limit}
use Rattle.mintc_netlist.specs.declared.module.Module.{Module}
use Rattle.mintc_netlist.specs.Statements.{Statement, first_at_fault}
use Rattle.mintc_flatten_hierarchy.specs.declared.hierarchy.Hierarchy.{Hierarchy}
use Rattle.mintc_flatten_hierarchy.specs.Sources.{Source, module_at, is_stub, modules_of, is_called, children_of}
use Rattle.mintc_flatten_hierarchy.specs.Faults.{is_name_twice, is_no_module, is_recursive, is_no_pin, is_misfit}
use Rattle.mintc_flatten_hierarchy.specs.Faults.{is_second_driver}
use Rattle.mintc_flatten_hierarchy.specs.Walks.{depth}
use Rattle.mintc_flatten_hierarchy.specs.Hierarchies.{hierarchy_of}

-- the modules that may be the top: those of the name that is asked for, or else those that no module instantiates
abbrev pub instantiates : Source → ℕ → Module → Bool
instantiates s k m = list_any (nat_eq k) (children_of s m)

-- whether a module may be the top, where a name is asked for or none
abbrev pub may_be_top : Source → Option (List ℕ) → ℕ → Bool
may_be_top s (Some name) k = is_called name (module_at s k)
may_be_top s None k = not (list_any (instantiates s k) (modules_of s))

-- the modules that may be the top
abbrev pub tops_of : Source → Option (List ℕ) → List ℕ
tops_of s top = filter (λ k. not (is_stub s (module_at s k)) && may_be_top s top k)
    (range_with_len 0 (length s.modules))

-- the quantities of a hierarchy, each with the limit of a run, in the order in which they are judged
abbrev pub quantities : Most → Source → ℕ → Hierarchy → List (Kind × ℕ × ℕ)
quantities most s top h =
    (kind.Scopes, length h.scopes, most.scopes) ∷ (kind.Depth, depth s (length s.modules) top, MOST_DEPTH) ∷
    (kind.Leaves, length h.leaves, most.leaves) ∷ (kind.Inner, length h.inner, most.inner) ∷ []

-- the refusal for want of one top, or of the top's limits
abbrev pub limit_refusal : Most → Source → ℕ → Option Refusal
limit_refusal most s top = over_limit (quantities most s top (hierarchy_of s top))

-- the refusal of the modules that may be the top: for want of one, or of its limits
abbrev pub top_refusal : Most → Source → List ℕ → Option Refusal
top_refusal most s (top ∷ []) = limit_refusal most s top
top_refusal most s tops = Some (refusal.TopUnclear (length tops))

-- the refusal of the first statement at fault by a test
abbrev pub refused_by : (Statement → Bool) → (ℕ → Refusal) → Source → Option Refusal
refused_by test kind s = option_map kind (first_at_fault test (modules_of s))

-- the refusals of statements, in the order of their numbers, each with the first statement at fault
abbrev pub name_twice_refusal : Source → Option Refusal
name_twice_refusal s = refused_by is_name_twice refusal.NameTwice s

-- of the first instance of nothing
abbrev pub no_module_refusal : Source → Option Refusal
no_module_refusal s = refused_by (is_no_module s) refusal.NoModule s

-- of the first instance on a closed chain
abbrev pub recursive_refusal : Source → Option Refusal
recursive_refusal s = refused_by (is_recursive s) refusal.Recursive s

-- of the first statement that speaks of a port or pin that is none
abbrev pub no_pin_refusal : Source → Option Refusal
no_pin_refusal s = refused_by (is_no_pin s) refusal.NoPin s

-- of the first statement that does not fit
abbrev pub width_refusal : Source → Option Refusal
width_refusal s = refused_by (is_misfit s) refusal.Width s

-- of the first statement that drives what is driven already
abbrev pub two_drivers_refusal : Source → Option Refusal
two_drivers_refusal s = refused_by (is_second_driver s) refusal.TwoDrivers s

-- the first refusal of a statement, and the first refusal of a netlist
abbrev pub statements_refusal : Source → Option Refusal
statements_refusal s =
    option_or (name_twice_refusal s)
    (option_or (no_module_refusal s)
    (option_or (recursive_refusal s)
    (option_or (no_pin_refusal s) (option_or (width_refusal s) (two_drivers_refusal s)))))

-- the first refusal of a netlist
abbrev pub refusal_of : Most → Source → Option (List ℕ) → Option Refusal
refusal_of most s top = option_or (statements_refusal s) (top_refusal most s (tops_of s top))

-- A hierarchy is that of the netlist: nothing refuses it in a run with these limits, and it is the one from its top.
pub record IsHierarchy (most : Most) (s : Source) (top : Option (List ℕ)) (h : Hierarchy) : Type 0 where
  pub unrefused : refusal_of most s top ≡ None
  pub number : ℕ
  pub one_top : tops_of s top ≡ number ∷ []
  pub is_of_top : h ≡ hierarchy_of s number

-- It is the first refusal of a netlist.
abbrev pub IsRefusal : Most → Source → Option (List ℕ) → Refusal → Type 0
IsRefusal most s top refused = refusal_of most s top ≡ Some refused
