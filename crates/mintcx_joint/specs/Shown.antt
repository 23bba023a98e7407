-- By which corner's numbers the members of a chain of corners are shown, and their stages.
use Rattle.std.specs.Prelude.{◌≡◌, ◌<◌, ◌≤◌, ◌-◌, ◌*◌, ℕ, zero, suc, ℤ, if◌then◌else◌, int_lt, List, length}
use Rattle.std.specs.Prelude.{slice_index_or, map, flat_map, All}
use Rattle.std.specs.List.{fold, range_with_len}
use Rattle.mintc_text.specs.declared.limits.TheConstants.{MOST_MEMBERS}
use Rattle.mintc_timing.specs.Clocking.{least_width}
use Rattle.mintc_timing.specs.Design.{Design, Timing, element_count, phase_count}
use Rattle.mintc_certificate.specs.declared.members.Member.{Member}
use Rattle.mintc_certificate.specs.declared.members.Member.TheVariants as member
use Rattle.mintc_certificate.specs.CertificateText.{IsCounted}
use Rattle.mintc_certificate.specs.Valid.{IsMember, IsNamed}
use Rattle.mintc_corners.specs.declared.members.CornerMember.{CornerMember}
use Rattle.mintc_corners.specs.CornerOptimum.{IsOfClock}
use Rattle.mintc_corners.specs.Joined.{no_timing}
use Rattle.mintc_corners.specs.Lifted.{lifted_node}
use Rattle.mintcx_chain.specs.declared.stages.Stage.{Stage}
use Rattle.mintcx_chain.specs.Names.{IsShort}
use Rattle.mintcx_chain.specs.Stages.{stage_of}
use Rattle.mintcx_chain.specs.Turning.{IsBeginning}

-- the timing of a corner, counted from 0
abbrev pub corner_at : List Timing → ℕ → Timing
corner_at ts c = slice_index_or ts c no_timing

-- of two corners the one that asks for more width of a phase, the first of them where neither does
abbrev pub wider : List Timing → ℕ → ℕ → ℕ → ℕ
wider ts p first other = if int_lt (least_width (corner_at ts first).flat p) (least_width (corner_at ts other).flat p)
    then other else first

-- the first corner that asks for the greatest width of a phase
abbrev pub widest_corner : List Timing → ℕ → ℕ
widest_corner ts p = fold (wider ts p) 0 (range_with_len 0 (length ts))

-- The corner, counted from 0, that shows a member under the number that it bears: its own. One of the clock bears 0 and
-- is shown by the first corner, but a width by the first that asks for the greatest.
abbrev pub shown_by : List Timing → ℕ → Member → ℕ
shown_by ts n (member.Width p) = widest_corner ts p
shown_by ts n m = n - 1

-- the same of a member with its number
abbrev pub corner_of : List Timing → CornerMember → ℕ
corner_of ts m = shown_by ts m.corner m.member

-- the design of that corner
abbrev pub design_of : List Timing → CornerMember → Design
design_of ts m = (corner_at ts (corner_of ts m)).flat

-- the stage that a member stands for in that corner
abbrev pub own_stage : List Timing → CornerMember → Stage
own_stage ts m = stage_of (design_of ts m) m.member

-- the number of a corner's node among those of all, with the elements of each corner after those of the one before
abbrev pub joint_node : List Timing → ℕ → ℕ → ℕ
joint_node ts c n = lifted_node (2 * phase_count (corner_at ts 0).flat) (c * element_count (corner_at ts 0).flat) n

-- the stage, beginning at its node among those of all corners
abbrev pub joint_stage : List Timing → CornerMember → Stage
joint_stage ts m = record (own_stage ts m) { from = joint_node ts (corner_of ts m) (own_stage ts m).from }

-- the stages of a chain
abbrev pub joint_stages : List Timing → List CornerMember → List Stage
joint_stages ts chain = map (joint_stage ts) chain

-- the departures of all corners, one after the other
abbrev pub joint_departures : List (List ℤ) → List ℤ
joint_departures departures = flat_map (λ d. d) departures

-- A chain begins at its n-th member, as the chain of one design does: no other begins sooner, by the departures.
abbrev pub BeginsAt : List Timing → List (List ℤ) → List CornerMember → ℕ → Type 0
BeginsAt ts departures chain n = IsBeginning (corner_at ts 0).flat (joint_departures departures)
    (joint_stages ts chain) n

-- The member is one of the clock by its number 0, and else one of the corner that shows it.
abbrev pub IsNumbered : Timing → ℕ → Member → Type 0
IsNumbered t zero m = IsOfClock m × IsNamed t.flat m
IsNumbered t (suc c) m = IsMember t m

-- The corner that shows the member is there, and has what it names.
pub record IsShown (ts : List Timing) (m : CornerMember) : Type 0 where
  pub there : corner_of ts m < length ts
  pub numbered : IsNumbered (corner_at ts (corner_of ts m)) m.corner m.member
  pub counted : IsCounted m.member

-- A chain with its stages, and the place of the member at which it begins.
pub record IsRing (ts : List Timing) (chain : List CornerMember) (stages : List Stage) (n : ℕ) : Type 0 where
  pub are : stages ≡ joint_stages ts chain
  pub begins : n < length chain
  pub most : length chain ≤ MOST_MEMBERS
  pub each : All (IsShown ts) chain
  pub short : All IsShort stages
