-- What a table of ranges holds.
use Rattle.std.specs.Prelude.{◌≡◌, ◌<◌, ℕ, ℤ, cond, Bool, List, length, slice_index_or, slice_set, Option, Some, None}
use Rattle.std.specs.Prelude.{nat_eq, ◌&&◌}
use Rattle.std.specs.HashMap.{HashMap, get}
use Rattle.mintc_flatten_hierarchy.specs.declared.hierarchy.Hierarchy.{Hierarchy}
use Rattle.mintc_flatten_hierarchy.specs.Shape.{CellTable}
use Rattle.mintc_sdf.specs.declared.delays.Delay.{Delay}
use Rattle.mintc_annotate_resolve.specs.declared.targets.Target.{Target as Annotated}
use Rattle.mintc_annotate_resolve.specs.declared.targets.Target.TheVariants.{PathOn, JoinInto, ArcsFrom, DqOf, CqOf}
use Rattle.mintc_annotate_resolve.specs.declared.targets.Target.TheVariants.{SetupOf, HoldOf, WidthOf}
use Rattle.mintc_annotate_delays.specs.declared.ranges.Ranges.{Ranges}
use Rattle.mintc_annotate_resolve.specs.Resolution.{Target, path_on, join_into, arcs_from, dq_of, cq_of, setup_of}
use Rattle.mintc_annotate_resolve.specs.Resolution.{hold_of, width_of, Said, said, same_target, widened, range_of}

-- ---- by leaf and two pins

-- whether two keys are one
abbrev pub same_key : ℕ × ℕ × ℕ → ℕ × ℕ × ℕ → Bool
same_key x y = (nat_eq x.0 y.0 && nat_eq x.1 y.1) && nat_eq x.2 y.2

module _ {S : Type 0} where
  abbrev pub path_at : HashMap (ℕ × ℕ × ℕ) (ℤ × ℤ) S → ℕ × ℕ × ℕ → Option (ℤ × ℤ)
  path_at m k = get same_key m k

-- ---- by place

-- So many places have no range.
pub record AreUnannotated (count : ℕ) (list : List (Option (ℤ × ℤ))) : Type 0 where
  pub size : length list ≡ count
  pub each : (k : ℕ) → slice_index_or list k None ≡ None

-- one place is widened
abbrev pub IsWidenedAt : List (Option (ℤ × ℤ)) → List (Option (ℤ × ℤ)) → ℕ → ℤ → ℤ → Type 0
IsWidenedAt old new place least greatest = new
    ≡ slice_set old place (Some (widened least greatest (slice_index_or old place None)))

-- ---- the range of a target
abbrev pub look : Ranges → Target → Option (ℤ × ℤ)
look r (path_on l i o) = path_at r.paths (l, i, o)
look r (join_into b) = slice_index_or r.joins.items b None
look r (arcs_from b) = slice_index_or r.ports.items b None
look r (dq_of l) = slice_index_or r.dq.items l None
look r (cq_of l) = slice_index_or r.cq.items l None
look r (setup_of l) = slice_index_or r.setup.items l None
look r (hold_of l) = slice_index_or r.hold.items l None
look r (width_of l) = slice_index_or r.width.items l None

-- it has the range of each target, of all that is said
abbrev pub HasRanges : Ranges → List Said → Type 0
HasRanges r ss = (m : Target) → look r m ≡ range_of ss m

-- the same of all that delays say
abbrev pub AreRanges : Hierarchy → CellTable → List Delay → Ranges → Type 0
AreRanges h cells ds r = HasRanges r (said h cells ds)

-- ---- one more delay

-- the range of one target is widened
abbrev pub IsWidened : Ranges → Ranges → Target → ℤ → ℤ → Type 0
IsWidened old new annotated least greatest = (m : Target) →
    look new m ≡ cond (same_target annotated m) (Some (widened least greatest (look old m))) (look old m)

-- there is a place for each bit and each leaf
pub record HasRoom (bits leaves : ℕ) (r : Ranges) : Type 0 where
  pub joins : length r.joins.items ≡ bits
  pub ports : length r.ports.items ≡ bits
  pub dq : length r.dq.items ≡ leaves
  pub cq : length r.cq.items ≡ leaves
  pub setup : length r.setup.items ≡ leaves
  pub hold : length r.hold.items ≡ leaves
  pub width : length r.width.items ≡ leaves

-- there are as many places as before
abbrev pub IsSameRoom : Ranges → Ranges → Type 0
IsSameRoom old new = (bits leaves : ℕ) → HasRoom bits leaves old → HasRoom bits leaves new

-- the place of a target
abbrev pub HasPlace : Ranges → Annotated → Type 0
HasPlace r (PathOn leaf from to) = Unit {0}
HasPlace r (JoinInto bit) = bit < length r.joins.items
HasPlace r (ArcsFrom bit) = bit < length r.ports.items
HasPlace r (DqOf leaf) = leaf < length r.dq.items
HasPlace r (CqOf leaf) = leaf < length r.cq.items
HasPlace r (SetupOf leaf) = leaf < length r.setup.items
HasPlace r (HoldOf leaf) = leaf < length r.hold.items
HasPlace r (WidthOf leaf) = leaf < length r.width.items
