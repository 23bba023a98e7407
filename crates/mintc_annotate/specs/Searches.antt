-- What the table of a search holds.
use Rattle.std.specs.Prelude.{◌≡◌, ◌<◌, ◌≤◌, ℕ, zero, suc, Bool, false, not, if◌then◌else◌, List, length}
use Rattle.std.specs.Prelude.{slice_index_or}
use Rattle.std.specs.Prelude.{Option, None, Some, All}
use Rattle.mintc_annotate.specs.declared.searching.Drive.{Drive}
use Rattle.mintc_annotate.specs.declared.searching.Spot.{Spot}
use Rattle.mintc_annotate.specs.declared.searching.Jump.{Jump}
use Rattle.mintc_annotate.specs.Phases.{driver_of, spot, turned, back, EndsAt, first_at}

-- all drivers are among so many bits
abbrev pub AreWithin : ℕ → List Drive → Type 0
AreWithin count ds = All (λ d. (d.to < count) × (d.from < count)) ds

-- the table has the driver of each of so many bits
pub record AreDrivers (ds : List Drive) (count : ℕ) (table : List (Option Drive)) : Type 0 where
  pub size : length table ≡ count
  pub each : (b : ℕ) → b < count → slice_index_or table b None ≡ driver_of ds b
  pub within : AreWithin count ds

-- it is a table of some drivers
abbrev pub IsTable : List (Option Drive) → Type 0
IsTable table = (ds : List Drive) × AreDrivers ds (length table) table

-- The search from a spot ends at one at which a phase is the first.
pub record IsPhaseFrom (ds : List Drive) (spots : List Spot) (start : Spot) (p : ℕ) : Type 0 where
  pub steps : ℕ
  pub end : Spot
  pub ends : EndsAt ds steps start end
  pub found : first_at 1 spots end ≡ Some p

-- ---- ways back of many steps
-- one step back from a spot, and none where nothing drives it; so many such steps
abbrev pub stepped : Option Drive → Spot → Spot
stepped None s = s
stepped (Some d) s = back d s

-- so many steps back from a spot
abbrev pub onward : List Drive → ℕ → Spot → Spot
onward ds zero s = s
onward ds (suc n) s = onward ds n (stepped (driver_of ds s.bit) s)

-- a way back by its parts
abbrev pub jump_to : ℕ → Bool → Jump
jump_to bit turns = record { bit = bit; turns = turns }

-- a way back that stands for those past the end of a list
abbrev pub no_jump : Jump
no_jump = jump_to 0 false

-- the way of one step back from a bit that is driven so; one way and then another; where a way leads at a level
abbrev pub first_jump : ℕ → Option Drive → Jump
first_jump b None = jump_to b false
first_jump b (Some d) = jump_to d.from d.inverts

-- one way back and then another
abbrev pub then_jump : Jump → Jump → Jump
then_jump one other = jump_to other.bit (if one.turns then not other.turns else other.turns)

-- where a way back leads at a level
abbrev pub spot_after : Jump → Bool → Spot
spot_after j high = spot j.bit (turned j.turns high)

-- a way, and from its end that of the end
abbrev pub doubled_jump : List Jump → Jump → Jump
doubled_jump jumps j = then_jump j (slice_index_or jumps j.bit no_jump)

-- the ways of n steps back from each of so many bits
pub record AreJumps (ds : List Drive) (n count : ℕ) (jumps : List Jump) : Type 0 where
  pub size : length jumps ≡ count
  pub within : All (λ j. j.bit < count) jumps
  pub each : (b : ℕ) (high : Bool) → b < count →
      onward ds n (spot b high) ≡ spot_after (slice_index_or jumps b no_jump) high

-- the ways of as many steps as there are bits, or more
abbrev pub AreLongJumps : List Drive → ℕ → List Jump → Type 0
AreLongJumps ds count jumps = (n : ℕ) × (count ≤ n) × AreJumps ds n count jumps
