-- The file of a command that a refusal speaks of.
use Rattle.std.specs.Prelude.{◌≡◌, ◌≢◌, ◌<◌, ℕ, ◌+◌, ◌⊎◌, Bool, true, false, if◌then◌else◌, List, []}
use Rattle.std.specs.Prelude.{Option, Some, None, length, slice_index_or}
use Rattle.mintc_text.specs.declared.refusals.Role.{Role}
use Rattle.mintc_text.specs.declared.refusals.Role.TheVariants as role
use Rattle.mintc_text.specs.declared.refusals.Refusal.{Refusal}
use Rattle.mintc_text.specs.declared.refusals.Refusal.TheVariants as refusal

-- What the file holds that a refusal speaks of. A loop of data and a long path are looked for in the table, where the
-- design has one, and the other limits are those of no file.
abbrev pub role_of : Refusal → Option Role
role_of (refusal.Syntax text entry) = Some text
role_of (refusal.TooLong text) = Some text
role_of (refusal.NameTwice entry) = Some role.Netlist
role_of (refusal.NoModule entry) = Some role.Netlist
role_of (refusal.Recursive entry) = Some role.Netlist
role_of (refusal.NoPin entry) = Some role.Netlist
role_of (refusal.Width entry) = Some role.Netlist
role_of (refusal.TwoDrivers entry) = Some role.Netlist
role_of (refusal.TopUnclear count) = Some role.Netlist
role_of (refusal.NoInstance text entry) = Some text
role_of (refusal.NoArc entry) = Some role.Delays
role_of (refusal.Negative entry) = Some role.Delays
role_of (refusal.BadCell entry rule) = Some role.Cells
role_of (refusal.BadClock entry rule) = Some role.Clock
role_of (refusal.NoPhase element) = Some role.Netlist
role_of (refusal.CombinationalLoop arcs) = Some role.Table
role_of (refusal.Limit quantity count) = None
role_of (refusal.Range entry) = Some role.Delays
role_of (refusal.PhaseMismatch design schedule) = Some role.Schedule
role_of (refusal.PathRange element bit) = Some role.Table
role_of (refusal.Corner file) = Some role.Delays

-- what a file holds, by its number from 0 on
abbrev pub role_at : List Role → ℕ → Role
role_at roles n = slice_index_or roles n role.Table

-- no file before one holds the same; or, of a corner, the file stands at its place
abbrev pub IsFirst : List Role → Refusal → ℕ → Type 0
IsFirst roles (refusal.Corner file) n = n ≡ file + 2
IsFirst roles refused n = (k : ℕ) → k < n → role_of refused ≢ Some (role_at roles k)

-- The file is the first that holds what the refusal speaks of. That of a corner stands behind those of the netlist,
-- the cells and the clock, and corners are counted from 1.
pub record IsFile (roles : List Role) (refused : Refusal) (n : ℕ) : Type 0 where
  pub within : n < length roles
  pub holds : role_of refused ≡ Some (role_at roles n)
  pub first : IsFirst roles refused n

-- what a file holds that says how many phases a design has, given what the first file of its command holds
abbrev pub role_of_phases : Role → Role
role_of_phases role.Table = role.Table
role_of_phases _ = role.Clock

-- what another file holds that a message takes names from: of cells and of their pins, of instances and ports of the
-- netlist, of phases
abbrev pub role_beside : List Role → Refusal → Option Role
role_beside roles (refusal.NoModule entry) = Some role.Cells
role_beside roles (refusal.NoPin entry) = Some role.Cells
role_beside roles (refusal.NoArc entry) = Some role.Cells
role_beside roles (refusal.NoPhase element) = Some role.Cells
role_beside roles (refusal.NoInstance of entry) = Some role.Netlist
role_beside roles (refusal.BadClock entry rule) = Some role.Netlist
role_beside roles (refusal.PhaseMismatch design schedule) = Some (role_of_phases (role_at roles 0))
role_beside roles _ = None

-- the other file that a message takes names from is the first that holds these
pub record IsBeside (roles : List Role) (refused : Refusal) (n : ℕ) : Type 0 where
  pub within : n < length roles
  pub holds : role_beside roles refused ≡ Some (role_at roles n)
  pub first : (k : ℕ) → k < n → role_beside roles refused ≢ Some (role_at roles k)

-- the name of a file, by its number from 0 on
abbrev pub name_at : List (List ℕ) → ℕ → List ℕ
name_at names n = slice_index_or names n []

-- the name of the file that a refusal speaks of, and nothing where it speaks of none
abbrev pub IsNameOf : List Role → List (List ℕ) → Refusal → List ℕ → Type 0
IsNameOf roles names refused name =
    ((n : ℕ) × IsFile roles refused n × (name ≡ name_at names n))
    ⊎ (((n : ℕ) → IsFile roles refused n → ⊥) × (name ≡ []))

-- a refusal is about the delays
abbrev pub is_of_delays : Option Role → Bool
is_of_delays (Some role.Delays) = true
is_of_delays _ = false

-- which of two refusals tells the file, where a corner is refused for what its own files are refused for: about the
-- delays that of the corner does
abbrev pub teller : Refusal → Refusal → Refusal
teller corner own = if is_of_delays (role_of own) then corner else own
