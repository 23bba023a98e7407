use Rattle.std.proofs.Common.{◌≡◌, ◌++◌, ℕ, List, take}
use Rattle.mintc_flatten_hierarchy.specs.declared.hierarchy.Hierarchy.{Hierarchy}
use Rattle.mintc_annotate_resolve.specs.Names.{HasNames}
use Rattle.mintc_annotate_resolve.specs.Instances.{AreIndexed, scope_called}
use Rattle.mintc_annotate_resolve.proofs.instances.Instances.scope_below.Given as goal

-- the names so far are walked
abbrev pub invariant-loop-name : goal.invariant-loop-name
invariant-loop-name l = (h : Hierarchy) (base : List (List ℕ)) → HasNames h → AreIndexed h l.self → l.fn.scope ≡ scope_called h base → l.found ≡ scope_called h (base ++ take l.name-index l.path)
