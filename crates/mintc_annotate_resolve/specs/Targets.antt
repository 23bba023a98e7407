-- What the code calls targets, and what it says of delays.
use Rattle.std.specs.Prelude.{◌≡◌, ◌<◌, List, [], ◌∷◌, length, Option, Some, None}
use Rattle.mintc_flatten_hierarchy.specs.declared.hierarchy.Hierarchy.{Hierarchy}
use Rattle.mintc_annotate_resolve.specs.declared.targets.Target.{Target as Annotated}
use Rattle.mintc_annotate_resolve.specs.declared.targets.Target.TheVariants.{PathOn, JoinInto, ArcsFrom, DqOf, CqOf}
use Rattle.mintc_annotate_resolve.specs.declared.targets.Target.TheVariants.{SetupOf, HoldOf, WidthOf}
use Rattle.mintc_annotate_resolve.specs.declared.targets.Resolved.{Resolved as Answer}
use Rattle.mintc_annotate_resolve.specs.declared.targets.Resolved.TheVariants as answer
use Rattle.mintc_annotate_resolve.specs.Resolution.{Target, path_on, join_into, arcs_from, dq_of, cq_of, setup_of}
use Rattle.mintc_annotate_resolve.specs.Resolution.{hold_of, width_of, Resolved, of, no_instance, no_arc}

-- the target that the code has
abbrev pub target_of : Annotated → Target
target_of (PathOn leaf from to) = path_on leaf from to
target_of (JoinInto bit) = join_into bit
target_of (ArcsFrom bit) = arcs_from bit
target_of (DqOf leaf) = dq_of leaf
target_of (CqOf leaf) = cq_of leaf
target_of (SetupOf leaf) = setup_of leaf
target_of (HoldOf leaf) = hold_of leaf
target_of (WidthOf leaf) = width_of leaf

-- the target that the code has, if any
abbrev pub targets_of : Option Annotated → List Target
targets_of None = []
targets_of (Some annotated) = target_of annotated ∷ []

-- the answer that the code has
abbrev pub resolved_of : Answer → Resolved
resolved_of (answer.Of annotated) = of (targets_of annotated)
resolved_of answer.NoInstance = no_instance
resolved_of answer.NoArc = no_arc

-- the bit or the leaf of a target is there
abbrev pub IsThere : Hierarchy → Annotated → Type 0
IsThere h (PathOn leaf from to) = leaf < length h.leaves
IsThere h (JoinInto bit) = bit < length h.inner
IsThere h (ArcsFrom bit) = bit < length h.inner
IsThere h (DqOf leaf) = leaf < length h.leaves
IsThere h (CqOf leaf) = leaf < length h.leaves
IsThere h (SetupOf leaf) = leaf < length h.leaves
IsThere h (HoldOf leaf) = leaf < length h.leaves
IsThere h (WidthOf leaf) = leaf < length h.leaves

-- the bit or the leaf of an answer is there
abbrev pub AreThere : Hierarchy → Answer → Type 0
AreThere h (answer.Of None) = Unit {0}
AreThere h (answer.Of (Some annotated)) = IsThere h annotated
AreThere h answer.NoInstance = Unit {0}
AreThere h answer.NoArc = Unit {0}

-- the answer is right, and its target is there
pub record IsResolved (h : Hierarchy) (resolved : Answer) (wanted : Resolved) : Type 0 where
  pub right : resolved_of resolved ≡ wanted
  pub there : AreThere h resolved
