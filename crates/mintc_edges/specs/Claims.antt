-- What delays claim of their targets, one claim after another.
use Rattle.std.specs.Prelude.{◌≡◌, ℕ, ℤ, Bool, true, false, ◌&&◌, List, ◌++◌, map, filter, flat_map, Option, Some, None}
use Rattle.std.specs.Prelude.{if◌then◌else◌, slice_index_or, []}
use Rattle.mintc_cells.specs.Rules.{pins}
use Rattle.mintc_flatten_hierarchy.specs.declared.hierarchy.Hierarchy.{Hierarchy}
use Rattle.mintc_flatten_hierarchy.specs.Shape.{CellTable}
use Rattle.mintc_sdf.specs.declared.delays.Subject.{Subject}
use Rattle.mintc_sdf_edges.specs.declared.delays.EdgeDelay.{EdgeDelay}
use Rattle.mintc_annotate_resolve.specs.Pins.{leaf_cell, is_storage}
use Rattle.mintc_annotate_resolve.specs.Resolution.{Target, path_on, join_into, arcs_from, dq_of, cq_of, setup_of}
use Rattle.mintc_annotate_resolve.specs.Resolution.{hold_of, width_of, Resolved, targets, resolved, refusal_of, Said}
use Rattle.mintc_annotate_resolve.specs.Resolution.{range_of}
use Rattle.mintc_annotate.specs.Made.{is_latch, is_flop}
use Rattle.mintc_edges.specs.declared.edge.Edge.{Edge}
use Rattle.mintc_edges.specs.declared.matters.Matter.{Matter}
use Rattle.mintc_edges.specs.declared.matters.Matter.TheVariants as matter
use Rattle.mintc_edges.specs.declared.told.Said as said_type
use Rattle.mintc_edges.specs.declared.told.Told.{Told}
use Rattle.mintc_edges.specs.Edges.{only, any}
use Rattle.mintc_edges.specs.Matters.{end_of}
use Rattle.mintc_edges.specs.Numbers.{speaks_of, leads_to}
use Rattle.mintc_edges.specs.Spreads.{at_one, begun}
use Rattle.mintc_edges.specs.Told.{path_told, told_at, IsSameRoom}

-- a target that a delay annotates
pub record Claim : Type 0 where
  pub target : Target
  pub delay : EdgeDelay

-- what a delay claims of some targets
abbrev pub claims_of : EdgeDelay → List Target → List Claim
claims_of d ms = map (λ m. record { target = m; delay = d }) ms

-- what all delays claim
abbrev pub claims : Hierarchy → CellTable → List EdgeDelay → List Claim
claims h cells ds = flat_map (λ d. claims_of d (targets (resolved h cells d.delay))) ds

-- what a claim says
abbrev pub said_in : Claim → Said
said_in c = record { target = c.target; least = c.delay.delay.least; greatest = c.delay.delay.greatest }

-- what those claims say of a target whose delays pass a test
abbrev pub claimed : (EdgeDelay → Bool) → List Claim → Target → Option (ℤ × ℤ)
claimed test cs m = range_of (map said_in (filter (λ c. test c.delay) cs)) m

-- whether a delay leads to pin o of leaf l
abbrev pub leads_to_pin : Hierarchy → CellTable → ℕ → ℕ → EdgeDelay → Bool
leads_to_pin h cells l o d = leads_to (slice_index_or (pins (leaf_cell h cells l)) o []) d.delay.subject

-- The table holds what is claimed.
pub record HasClaims (h : Hierarchy) (cells : CellTable) (cs : List Claim) (told : Told) : Type 0 where
  pub gates : (l i o : ℕ) → is_storage (leaf_cell h cells l) ≡ false → (a b : Edge) →
      at_one (begun (path_told told (l, i, o)) a) b ≡ claimed (speaks_of (only a) (only b)) cs (path_on l i o)
  pub from_data : (l o : ℕ) → is_latch (leaf_cell h cells l) ≡ true → (a b : Edge) →
      at_one (begun (path_told told (l, 0, o)) a) b
      ≡ claimed (λ d. leads_to_pin h cells l o d && speaks_of (only a) (only b) d) cs (dq_of l)
  pub from_enable : (l o : ℕ) → is_latch (leaf_cell h cells l) ≡ true → (a b : Edge) →
      at_one (begun (path_told told (l, 1, o)) a) b
      ≡ claimed (λ d. leads_to_pin h cells l o d && speaks_of any (only b) d) cs (cq_of l)
  pub from_clock : (l o : ℕ) → is_flop (leaf_cell h cells l) ≡ true → (a b : Edge) →
      at_one (begun (path_told told (l, 1, o)) a) b
      ≡ claimed (λ d. leads_to_pin h cells l o d && speaks_of any (only b) d) cs (dq_of l)
  pub joins : (b : ℕ) (e : Edge) →
      at_one (told_at told.joins.items b) e ≡ claimed (speaks_of any (only e)) cs (join_into b)
  pub ports : (b : ℕ) (e : Edge) →
      at_one (told_at told.ports.items b) e ≡ claimed (speaks_of any (only e)) cs (arcs_from b)
  pub setups : (l : ℕ) (e : Edge) →
      at_one (told_at told.setups.items l) e ≡ claimed (speaks_of (only e) any) cs (setup_of l)
  pub holds : (l : ℕ) (e : Edge) →
      at_one (told_at told.holds.items l) e ≡ claimed (speaks_of (only e) any) cs (hold_of l)
  pub widths : (l : ℕ) (e : Edge) →
      at_one (told_at told.widths.items l) e ≡ claimed (speaks_of any (only e)) cs (width_of l)

-- ---- one more

-- whether a target is of a path from an enable or a clock pin
abbrev pub begins_at_clock : Hierarchy → CellTable → Target → Bool
begins_at_clock h cells (cq_of l) = true
begins_at_clock h cells (dq_of l) = is_flop (leaf_cell h cells l)
begins_at_clock h cells _ = false

-- what a delay says of a target: the first edge of a path from an enable or a clock pin isn't read
abbrev pub said_of : Hierarchy → CellTable → Target → EdgeDelay → said_type.Said
said_of h cells m d = record {
  from = if begins_at_clock h cells m then any else d.edge;
  to = d.speaks;
  least = d.delay.least;
  greatest = d.delay.greatest;
}

-- the subject ends at an output of leaf l
abbrev pub HasEnd : Hierarchy → CellTable → ℕ → Subject → Type 0
HasEnd h cells l s = (o : ℕ) × (end_of h cells l s ≡ Some o)

-- a target that a subject may annotate: a path on a gate, from the data of a latch or flop, or from the enable of a
-- latch
abbrev pub IsApt : Hierarchy → CellTable → Subject → Target → Type 0
IsApt h cells s (path_on l i o) = is_storage (leaf_cell h cells l) ≡ false
IsApt h cells s (dq_of l) = (is_storage (leaf_cell h cells l) ≡ true) × HasEnd h cells l s
IsApt h cells s (cq_of l) = (is_latch (leaf_cell h cells l) ≡ true) × HasEnd h cells l s
IsApt h cells s _ = Unit {0}

-- the matter of a target, where its path ends at output o
abbrev pub matter_at : Hierarchy → CellTable → ℕ → Target → Matter
matter_at h cells o (path_on l i p) = matter.Path l i p
matter_at h cells o (dq_of l) = matter.Path l (if is_flop (leaf_cell h cells l) then 1 else 0) o
matter_at h cells o (cq_of l) = matter.Path l 1 o
matter_at h cells o (join_into b) = matter.Join b
matter_at h cells o (arcs_from b) = matter.Port b
matter_at h cells o (setup_of l) = matter.Setup l
matter_at h cells o (hold_of l) = matter.Hold l
matter_at h cells o (width_of l) = matter.Width l

-- A delay is taken in: it is not refused, and the table has what it claims besides.
pub record IsTakenIn (h : Hierarchy) (cells : CellTable) (d : EdgeDelay) (resolved : Resolved) (old new : Told) : Type 0
  where
    pub unrefused : refusal_of d.delay.entry resolved ≡ None
    pub told : (cs : List Claim) → HasClaims h cells cs old →
        HasClaims h cells (cs ++ claims_of d (targets resolved)) new
    pub room : IsSameRoom old new
